-- Step after step.
use Rattle.answers.specs.Then.{on-done, on-err}
use Rattle.base.specs.Clauses.{value_left}
use Rattle.leaf_revocation.proofs.free_leaf.Goals as goal

pub returns : goal.returns
returns c = value_left (on-done _ _ _ _ (c.give_back.ensures.value, c.give_back.ensures.left) _ _ _ c.in_ok-give_back.was (on-done _ _ _ _ (c.free_region.ensures.value, c.free_region.ensures.left) _ _ _ c.in_ok-free_region.was (c.cleanup_if.ensures.value, c.cleanup_if.ensures.left)))

pub returns-in_err-free_region : goal.returns-in_err-free_region
returns-in_err-free_region c = value_left (on-done _ _ _ _ (c.give_back.ensures.value, c.give_back.ensures.left) _ _ _ c.in_ok-give_back.was (on-err _ _ _ _ (c.free_region.ensures.value, c.free_region.ensures.left) _ c.in_err-free_region.was _ c.from_residual-in_err-free_region.ensures.1))

pub returns-in_err-give_back : goal.returns-in_err-give_back
returns-in_err-give_back c = value_left (on-err _ _ _ _ (c.give_back.ensures.value, c.give_back.ensures.left) _ c.in_err-give_back.was _ c.from_residual.ensures.1)
