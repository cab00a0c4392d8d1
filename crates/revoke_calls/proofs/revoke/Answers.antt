-- Step after step.
use mathlib.Core.Path.{refl}
use Rattle.answers.specs.Then.{on-done, on-err}
use Rattle.checks.specs.Reads.{ran-domain}
use Rattle.revoke_calls.specs.Calls.{revoke_local}
use Rattle.base.specs.Clauses.{value_left}
use Rattle.revoke_calls.proofs.revoke.Goals as goal

pub returns : goal.returns
unfolding revoke_local
returns c = value_left (on-done _ _ _ _ (ran-domain _ _ c.requires _ c.live_domain.ensures) _ _ _ c.in_ok-d.was (on-done _ _ _ _ (rw c.capa_at-x.ensures at c.revoke_capa.ensures.value, rw c.capa_at-x.ensures at c.revoke_capa.ensures.left) _ _ _ c.in_ok-revoke_capa.was (refl, c.empty_capa.ensures)))

pub returns-in_err-revoke_capa : goal.returns-in_err-revoke_capa
unfolding revoke_local
returns-in_err-revoke_capa c = value_left (on-done _ _ _ _ (ran-domain _ _ c.requires _ c.live_domain.ensures) _ _ _ c.in_ok-d.was (on-err _ _ _ _ (rw c.capa_at-x.ensures at c.revoke_capa.ensures.value, rw c.capa_at-x.ensures at c.revoke_capa.ensures.left) _ c.in_err-revoke_capa.was _ c.from_residual-in_err-revoke_capa.ensures.1))

pub returns-in_err-d : goal.returns-in_err-d
unfolding revoke_local
returns-in_err-d c = value_left (on-err _ _ _ _ (ran-domain _ _ c.requires _ c.live_domain.ensures) _ c.in_err-d.was _ c.from_residual.ensures.1)
