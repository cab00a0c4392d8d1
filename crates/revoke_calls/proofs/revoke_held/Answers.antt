-- Step after step.
use Rattle.answers.specs.Then.{on-done, on-err}
use Rattle.checks.specs.Reads.{ran-region}
use Rattle.revoke_calls.specs.Parts.{revoked_held}
use Rattle.base.specs.Clauses.{value_left}
use Rattle.revoke_calls.proofs.revoke_held.Goals as goal

pub returns : goal.returns
unfolding revoked_held
returns c = value_left (on-done _ _ _ _ (ran-region _ _ c.requires _ c.live_region.ensures) _ _ _ c.in_ok-i.was (c.revoke_unless_root.ensures.value, c.revoke_unless_root.ensures.left))

pub returns-in_err-i : goal.returns-in_err-i
unfolding revoked_held
returns-in_err-i c = value_left (on-err _ _ _ _ (ran-region _ _ c.requires _ c.live_region.ensures) _ c.in_err-i.was _ c.from_residual.ensures.1)
