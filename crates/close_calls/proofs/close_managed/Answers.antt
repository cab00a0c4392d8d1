-- Step after step.
use Rattle.answers.specs.Then.{on-done, on-err}
use Rattle.checks.specs.Reads.{ran-domain}
use Rattle.close_calls.specs.Calls.{close_managed}
use Rattle.base.specs.Clauses.{value_left}
use Rattle.close_calls.proofs.close_managed.Goals as goal

pub returns : goal.returns
unfolding close_managed
returns c = value_left (on-done _ _ _ _ (ran-domain _ _ c.requires _ c.live_domain.ensures) _ _ _ c.in_ok-d.was (c.close_unless_held.ensures.value, c.close_unless_held.ensures.left))

pub returns-in_err-d : goal.returns-in_err-d
unfolding close_managed
returns-in_err-d c = value_left (on-err _ _ _ _ (ran-domain _ _ c.requires _ c.live_domain.ensures) _ c.in_err-d.was _ c.from_residual.ensures.1)
