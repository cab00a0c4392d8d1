-- The test of the length says whether words are sized.
use Rattle.std.specs.Prelude.{◌≡◌, true, List, ℕ}
use Rattle.std.proofs.Common.{eqb-true, eq-eqb}
use Rattle.base.specs.Tests.{both_true}
use Rattle.sizes.specs.Limits.{limits_b, limits-true, true-limits}
use Rattle.sizes.specs.Sizes.{sizes_of}
use Rattle.sizes.specs.Tests.{sized_b}
use Rattle.tables.specs.View.{Sized}

pub sized-true : (t : List ℕ) → sized_b t ≡ true → Sized t
unfolding sized_b
sized-true t h =
    let a = both_true (limits_b (sizes_of t)) _ h in
    record { limits = limits-true (sizes_of t) a.0; exact = eqb-true _ _ a.1 }

pub true-sized : (t : List ℕ) → Sized t → sized_b t ≡ true
unfolding sized_b
true-sized t s = rw (true-limits (sizes_of t) s.limits) (eq-eqb _ _ s.exact)
