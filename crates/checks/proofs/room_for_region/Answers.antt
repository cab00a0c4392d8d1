-- Room for the region, then for its capability, then the range.
use Rattle.base.specs.Clauses.{value_left}
use mathlib.Core.Path.{refl}
use borrow.Author.Tests.{eq-eqb, ne_eqb, lt-ltb, le-ltb}
use Rattle.answers.specs.Then.{stays, on-done, on-err}
use Rattle.checks.specs.Checks.{room_for_region}
use Rattle.checks.proofs.room_for_region.Goals as goal

pub returns-then-capacity-eq0 : goal.returns-then-capacity-eq0
unfolding room_for_region
returns-then-capacity-eq0 c = rw (← c.capacity.ensures, eq-eqb _ _ c.if-capacity-eq0.true) record { value = refl; left = stays _ c.requires }

pub returns-then-a : goal.returns-then-a
unfolding room_for_region
returns-then-a c = rw (← c.capacity.ensures, ne_eqb _ _ c.if-capacity-eq0.false) (value_left (on-done _ _ _ _ (c.reserve.ensures.value, c.reserve.ensures.left) _ _ _ c.in_ok-reserve.was (rw (lt-ltb _ _ c.if-a.true) (refl, stays _ c.reserve.ensures.left.sized))))

pub returns : goal.returns
unfolding room_for_region
returns c = rw (← c.capacity.ensures, ne_eqb _ _ c.if-capacity-eq0.false) (value_left (on-done _ _ _ _ (c.reserve.ensures.value, c.reserve.ensures.left) _ _ _ c.in_ok-reserve.was (rw (le-ltb _ _ c.if-a.false) (refl, stays _ c.reserve.ensures.left.sized))))

pub returns-in_err-reserve : goal.returns-in_err-reserve
unfolding room_for_region
returns-in_err-reserve c = rw (← c.capacity.ensures, ne_eqb _ _ c.if-capacity-eq0.false) (let h = on-err _ _ _ _ (c.reserve.ensures.value, c.reserve.ensures.left) _ c.in_err-reserve.was _ c.from_residual.ensures.1 in record { value = h.0; left = h.1 })
