-- Step after step.
use Rattle.answers.specs.Then.{on-done, on-err}
use Rattle.checks.specs.Reads.{ran-domain}
use Rattle.domain_calls.specs.Calls.{open_channel}
use Rattle.base.specs.Clauses.{value_left}
use Rattle.domain_calls.proofs.open_channel.Goals as goal

pub returns : goal.returns
unfolding open_channel
returns c = value_left (on-done _ _ _ _ (ran-domain _ _ c.requires _ c.live_domain.ensures) _ _ _ c.in_ok-d.was (on-done _ _ _ _ (ran-domain _ _ c.requires _ c.live_domain-2.ensures) _ _ _ c.in_ok-live_domain.was (on-done _ _ _ _ (c.reserve.ensures.value, c.reserve.ensures.left) _ _ _ c.in_ok-reserve.was (c.insert.ensures.value, c.insert.ensures.left))))

pub returns-in_err-reserve : goal.returns-in_err-reserve
unfolding open_channel
returns-in_err-reserve c = value_left (on-done _ _ _ _ (ran-domain _ _ c.requires _ c.live_domain.ensures) _ _ _ c.in_ok-d.was (on-done _ _ _ _ (ran-domain _ _ c.requires _ c.live_domain-2.ensures) _ _ _ c.in_ok-live_domain.was (on-err _ _ _ _ (c.reserve.ensures.value, c.reserve.ensures.left) _ c.in_err-reserve.was _ c.from_residual-in_err-reserve.ensures.1)))

pub returns-in_err-live_domain : goal.returns-in_err-live_domain
unfolding open_channel
returns-in_err-live_domain c = value_left (on-done _ _ _ _ (ran-domain _ _ c.requires _ c.live_domain.ensures) _ _ _ c.in_ok-d.was (on-err _ _ _ _ (ran-domain _ _ c.requires _ c.live_domain-2.ensures) _ c.in_err-live_domain.was _ c.from_residual-in_err-live_domain.ensures.1))

pub returns-in_err-d : goal.returns-in_err-d
unfolding open_channel
returns-in_err-d c = value_left (on-err _ _ _ _ (ran-domain _ _ c.requires _ c.live_domain.ensures) _ c.in_err-d.was _ c.from_residual.ensures.1)
