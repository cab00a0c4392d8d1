-- A place in domain i, or the end of the words.
use Rattle.tables.specs.Domains.{domain-place-low, slot-place, no-slot-place}
use Rattle.sizes.specs.Sizes.{sizes_of}
use native.Mathlib.Omega.{arith}
use Rattle.rows.proofs.domains.slot_at.Goals as goal

pub overflow_mul-result : goal.overflow_mul-result
unfolding sizes_of
overflow_mul-result c = omega (arith, c.size.ensures, c.requires.limits.slots-high)

pub overflow_add-result : goal.overflow_add-result
unfolding sizes_of
overflow_add-result c = omega (arith, c.size.ensures, c.requires.limits.slots-high)

pub overflow_add-result-then-j-size : goal.overflow_add-result-then-j-size
unfolding sizes_of
overflow_add-result-then-j-size c = omega (arith, c.size.ensures, c.requires.limits.slots-high, c.place.ensures, domain-place-low c.args.t.now c.args.i c.requires)

pub returns-then-j-size : goal.returns-then-j-size
returns-then-j-size c = slot-place _ _ _ _ _ c.size.ensures c.if-j-size.true c.place.ensures

pub returns-else-j-size : goal.returns-else-j-size
returns-else-j-size c = no-slot-place _ _ _ _ c.size.ensures c.if-j-size.false
