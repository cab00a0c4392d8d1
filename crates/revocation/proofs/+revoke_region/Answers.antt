-- Revoking from here is the whole from the start. The number falls with each child, so the recursion ends.
use Rattle.std.proofs.Common.{arith, ◌∙◌}
use Rattle.base.specs.Clauses.{value_left}
use Rattle.answers.specs.Then.{same_step}
use Rattle.revocation.proofs.Walks.{revoke-out, revoke-here, revoke-on, revoke-refused}
use Rattle.revocation.proofs.+revoke_region.Goals as goal

pub returns-then-g-eq0 : goal.returns-then-g-eq0
returns-then-g-eq0 t c = value_left (same_step _ _ _ _ (revoke-here _ _ _ _ (omega arith) _ c.load-g.ensures c.if-g-eq0.true ∙ c.loop-n.invariant.1) (c.revoke_leaf.ensures.value, c.revoke_leaf.ensures.left))

pub loop-n-preserved : goal.loop-n-preserved
loop-n-preserved t c = (c.revoke_region.ensures.left.sized, revoke-on _ _ _ _ (omega arith) _ c.load-g.ensures c.if-g-eq0.false _ _ (rw c.slot_to.ensures at c.revoke_region.ensures.value, rw c.slot_to.ensures at c.revoke_region.ensures.left) _ c.in_ok-revoke_region.was ∙ c.loop-n.invariant.1)

pub returns-in_err-revoke_region : goal.returns-in_err-revoke_region
returns-in_err-revoke_region t c = value_left (same_step _ _ _ _ c.loop-n.invariant.1 (revoke-refused _ _ _ _ (omega arith) _ c.load-g.ensures c.if-g-eq0.false _ _ (rw c.slot_to.ensures at c.revoke_region.ensures.value, rw c.slot_to.ensures at c.revoke_region.ensures.left) _ c.in_err-revoke_region.was _ c.from_residual.ensures.1))

pub returns : goal.returns
returns t c = value_left (same_step _ _ _ _ c.loop-n.invariant.1 (revoke-out _ _ _ _ c.loop-n.invariant.0 (omega arith)))
