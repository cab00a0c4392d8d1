-- Step after step.
use mathlib.Core.Path.{refl}
use Rattle.answers.specs.Then.{on-done, on-err}
use Rattle.checks.specs.Reads.{ran-domain}
use Rattle.interface_calls.specs.Calls.{freeze_interface}
use Rattle.base.specs.Clauses.{value_left}
use Rattle.interface_calls.proofs.freeze_interface.Goals as goal

pub returns : goal.returns
unfolding freeze_interface
returns c = value_left (on-done _ _ _ _ (ran-domain _ _ c.requires _ c.live_domain.ensures) _ _ _ c.in_ok-d.was (refl, rw c.load-interface.ensures at c.store.ensures))

pub returns-in_err-d : goal.returns-in_err-d
unfolding freeze_interface
returns-in_err-d c = value_left (on-err _ _ _ _ (ran-domain _ _ c.requires _ c.live_domain.ensures) _ c.in_err-d.was _ c.from_residual.ensures.1)
