-- The test of the length, and the bounds by which no place of a word wraps.
use Rattle.std.specs.Prelude.{◌≡◌, Bool, true, false, List, ℕ, ◌+◌, ◌≤◌, ◌*◌, eqb, length}
use Rattle.std.proofs.Common.{mul-le-mul, arith}
use Rattle.base.specs.Tests.{both}
use Rattle.words.specs.Cuts.{offset}
use Rattle.sizes.specs.declared.Sizes.{Sizes}
use Rattle.sizes.specs.Limits.{most_domains, most_slots, most_words, Limits, limits_b}
use Rattle.sizes.specs.Sizes.{sizes_of, head_width, slot_width, total, stride}

unfoldable pub sized_b : List ℕ → Bool
sized_b t = both (limits_b (sizes_of t)) (eqb (length t) (total (sizes_of t)))

-- the two ways of the test in the code
pub sized-then : (t : List ℕ) (z : Sizes) (b : Bool) (n : ℕ) → z ≡ sizes_of t → b ≡ limits_b z → b ≡ true → n ≡ total z → eqb (length t) n ≡ sized_b t
unfolding sized_b
sized-then t z b n e h y m = cc

pub sized-else : (t : List ℕ) (z : Sizes) (b : Bool) → z ≡ sizes_of t → b ≡ limits_b z → b ≡ false → false ≡ sized_b t
unfolding sized_b
sized-else t z b e h y = cc

-- the one product in the widths
pub domains-fit : (z : Sizes) → Limits z → z.domains * stride z ≤ most_domains * (head_width + most_slots * slot_width)
domains-fit z h = let e : stride z ≤ head_width + most_slots * slot_width = omega (arith, h.slots-high) in mul-le-mul h.domains-high e

pub total-fits : (z : Sizes) → Limits z → total z ≤ most_words
unfolding total offset
total-fits z h = omega (arith, domains-fit z h)
