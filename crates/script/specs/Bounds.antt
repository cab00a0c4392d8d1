-- How many lines a domain can have.
use Rattle.std.proofs.Common.{ap, arith}
use Rattle.std.specs.Prelude.{ℕ, ◌≤◌, List, length}
use Rattle.sizes.specs.declared.Sizes.{Sizes}
use Rattle.tables.specs.View.{view, Sized}
use Rattle.tables.specs.Header.{sizes-seen}
use Rattle.listing.specs.Listed.{listed_of}
use Rattle.listing.specs.Room.{listed-short}

pub lines-few : (t : List ℕ) (d : ℕ) → Sized t → length (listed_of (view t) d) ≤ 1024
lines-few t d h = omega (arith, listed-short (view t) d, ap (λ (z : Sizes). z.records) (sizes-seen t), h.limits.records-high)
