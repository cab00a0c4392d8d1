-- Step after step.
use Rattle.answers.specs.Then.{on-done, on-err}
use Rattle.checks.specs.Reads.{ran-domain, ran-held}
use Rattle.revoke_calls.specs.Parts.{revoker-is}
use Rattle.base.specs.Clauses.{value_left}
use Rattle.revoke_calls.proofs.create_revoke_capa.Goals as goal

pub returns : goal.returns
returns c = rw revoker-is (value_left (on-done _ _ _ _ (ran-domain _ _ c.requires _ c.live_domain.ensures) _ _ _ c.in_ok-d.was (on-done _ _ _ _ (ran-held _ _ c.requires _ _ c.region_held.ensures) _ _ _ c.in_ok-i.was (c.add_revoker.ensures.value, c.add_revoker.ensures.left))))

pub returns-in_err-i : goal.returns-in_err-i
returns-in_err-i c = rw revoker-is (value_left (on-done _ _ _ _ (ran-domain _ _ c.requires _ c.live_domain.ensures) _ _ _ c.in_ok-d.was (on-err _ _ _ _ (ran-held _ _ c.requires _ _ c.region_held.ensures) _ c.in_err-i.was _ c.from_residual-in_err-i.ensures.1)))

pub returns-in_err-d : goal.returns-in_err-d
returns-in_err-d c = rw revoker-is (value_left (on-err _ _ _ _ (ran-domain _ _ c.requires _ c.live_domain.ensures) _ c.in_err-d.was _ c.from_residual.ensures.1))
