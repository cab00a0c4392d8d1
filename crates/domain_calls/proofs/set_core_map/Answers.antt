-- Step after step.
use mathlib.Core.Path.{refl}
use Rattle.answers.specs.Then.{on-done, on-err}
use Rattle.checks.specs.Reads.{ran-domain}
use Rattle.domain_calls.specs.Calls.{set_core_map}
use Rattle.base.specs.Clauses.{value_left}
use Rattle.domain_calls.proofs.set_core_map.Goals as goal

pub returns : goal.returns
unfolding set_core_map
returns c = value_left (on-done _ _ _ _ (ran-domain _ _ c.requires _ c.live_domain.ensures) _ _ _ c.in_ok-d.was (refl, rw c.load-head.ensures at c.store.ensures))

pub returns-in_err-d : goal.returns-in_err-d
unfolding set_core_map
returns-in_err-d c = value_left (on-err _ _ _ _ (ran-domain _ _ c.requires _ c.live_domain.ensures) _ c.in_err-d.was _ c.from_residual.ensures.1)
