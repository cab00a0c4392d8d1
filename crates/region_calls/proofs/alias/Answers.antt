-- The check, then step after step.
use mathlib.Core.Path.{refl}
use Rattle.answers.specs.Then.{stays, on-done, on-err}
use Rattle.region_calls.specs.Parts.{aliased}
use Rattle.base.specs.Clauses.{value_left}
use Rattle.region_calls.proofs.alias.Goals as goal

pub returns-then-not-check_alias : goal.returns-then-not-check_alias
unfolding aliased
returns-then-not-check_alias c = rw (← c.check_alias.ensures, c.if-not-check_alias.true) record { value = refl; left = stays _ c.requires }

pub returns : goal.returns
unfolding aliased
returns c = rw (← c.check_alias.ensures, c.if-not-check_alias.false) (value_left (on-done _ _ _ _ (c.add_child.ensures.value, c.add_child.ensures.left) _ _ _ c.in_ok-n.was (on-done _ _ _ _ (c.activate_region.ensures.value, c.activate_region.ensures.left) _ _ _ c.in_ok-activate_region.was (refl, stays _ c.activate_region.ensures.left.sized))))

pub returns-in_err-activate_region : goal.returns-in_err-activate_region
unfolding aliased
returns-in_err-activate_region c = rw (← c.check_alias.ensures, c.if-not-check_alias.false) (value_left (on-done _ _ _ _ (c.add_child.ensures.value, c.add_child.ensures.left) _ _ _ c.in_ok-n.was (on-err _ _ _ _ (c.activate_region.ensures.value, c.activate_region.ensures.left) _ c.in_err-activate_region.was _ c.from_residual-in_err-activate_region.ensures.1)))

pub returns-in_err-n : goal.returns-in_err-n
unfolding aliased
returns-in_err-n c = rw (← c.check_alias.ensures, c.if-not-check_alias.false) (value_left (on-err _ _ _ _ (c.add_child.ensures.value, c.add_child.ensures.left) _ c.in_err-n.was _ c.from_residual.ensures.1))
