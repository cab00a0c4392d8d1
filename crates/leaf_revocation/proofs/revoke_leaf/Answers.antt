-- Step after step.
use Rattle.answers.specs.Then.{on-done, on-err}
use Rattle.leaf_revocation.specs.Leaf.{revoke_leaf}
use Rattle.base.specs.Clauses.{value_left}
use Rattle.leaf_revocation.proofs.revoke_leaf.Goals as goal

pub returns : goal.returns
unfolding revoke_leaf
returns c = rw (← c.load-g.ensures, ← c.leave_parent.ensures.seen, ← c.slot_to.ensures, ← c.access-a.ensures) (value_left (on-done _ _ _ _ (c.deactivate_region.ensures.value, c.deactivate_region.ensures.left) _ _ _ c.in_ok-deactivate_region.was (c.free_leaf.ensures.value, c.free_leaf.ensures.left)))

pub returns-in_err-deactivate_region : goal.returns-in_err-deactivate_region
unfolding revoke_leaf
returns-in_err-deactivate_region c = rw (← c.load-g.ensures, ← c.leave_parent.ensures.seen, ← c.slot_to.ensures, ← c.access-a.ensures) (value_left (on-err _ _ _ _ (c.deactivate_region.ensures.value, c.deactivate_region.ensures.left) _ c.in_err-deactivate_region.was _ c.from_residual.ensures.1))
