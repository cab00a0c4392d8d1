-- Step after step.
use Rattle.answers.specs.Then.{on-done, on-err}
use Rattle.region_calls.specs.Calls.{add_child}
use Rattle.base.specs.Clauses.{value_left}
use Rattle.region_calls.proofs.add_child.Goals as goal

pub returns : goal.returns
unfolding add_child
returns c = value_left (on-done _ _ _ _ (rw (c.capa_for.ensures, c.link_to.ensures) at c.new_region.ensures.value, rw (c.capa_for.ensures, c.link_to.ensures) at c.new_region.ensures.left) _ _ _ c.in_ok-i.was (rw c.insert_child.ensures.seen at c.hold.ensures.value, rw c.insert_child.ensures.seen at c.hold.ensures.left))

pub returns-in_err-i : goal.returns-in_err-i
unfolding add_child
returns-in_err-i c = value_left (on-err _ _ _ _ (rw (c.capa_for.ensures, c.link_to.ensures) at c.new_region.ensures.value, rw (c.capa_for.ensures, c.link_to.ensures) at c.new_region.ensures.left) _ c.in_err-i.was _ c.from_residual.ensures.1)
