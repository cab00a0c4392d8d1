-- Step after step.
use mathlib.Core.Path.{refl}
use Rattle.answers.specs.Then.{stays, on-done, on-err}
use Rattle.region_calls.specs.Parts.{rooted}
use Rattle.base.specs.Clauses.{value_left}
use Rattle.region_calls.proofs.root.Goals as goal

pub returns : goal.returns
unfolding rooted
returns c = value_left (on-done _ _ _ _ (rw c.capa_for.ensures at c.new_region.ensures.value, rw c.capa_for.ensures at c.new_region.ensures.left) _ _ _ c.in_ok-i.was (on-done _ _ _ _ (c.hold.ensures.value, c.hold.ensures.left) _ _ _ c.in_ok-l.was (on-done _ _ _ _ (c.activate_region.ensures.value, c.activate_region.ensures.left) _ _ _ c.in_ok-activate_region.was (refl, stays _ c.activate_region.ensures.left.sized))))

pub returns-in_err-activate_region : goal.returns-in_err-activate_region
unfolding rooted
returns-in_err-activate_region c = value_left (on-done _ _ _ _ (rw c.capa_for.ensures at c.new_region.ensures.value, rw c.capa_for.ensures at c.new_region.ensures.left) _ _ _ c.in_ok-i.was (on-done _ _ _ _ (c.hold.ensures.value, c.hold.ensures.left) _ _ _ c.in_ok-l.was (on-err _ _ _ _ (c.activate_region.ensures.value, c.activate_region.ensures.left) _ c.in_err-activate_region.was _ c.from_residual-in_err-activate_region.ensures.1)))

pub returns-in_err-l : goal.returns-in_err-l
unfolding rooted
returns-in_err-l c = value_left (on-done _ _ _ _ (rw c.capa_for.ensures at c.new_region.ensures.value, rw c.capa_for.ensures at c.new_region.ensures.left) _ _ _ c.in_ok-i.was (on-err _ _ _ _ (c.hold.ensures.value, c.hold.ensures.left) _ c.in_err-l.was _ c.from_residual-in_err-l.ensures.1))

pub returns-in_err-i : goal.returns-in_err-i
unfolding rooted
returns-in_err-i c = value_left (on-err _ _ _ _ (rw c.capa_for.ensures at c.new_region.ensures.value, rw c.capa_for.ensures at c.new_region.ensures.left) _ c.in_err-i.was _ c.from_residual.ensures.1)
