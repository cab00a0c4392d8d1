-- The domain, then whether its word is frozen.
use mathlib.Core.Path.{refl}
use borrow.Author.Tests.{eq-eqb, ne_eqb}
use Rattle.answers.specs.Then.{stays, on-done, on-err}
use Rattle.checks.specs.Reads.{ran-domain}
use Rattle.interface_calls.specs.Calls.{set_interface}
use Rattle.base.specs.Clauses.{value_left}
use Rattle.interface_calls.proofs.set_interface.Goals as goal

pub returns-then-old-eq0 : goal.returns-then-old-eq0
unfolding set_interface
returns-then-old-eq0 c = value_left (on-done _ _ _ _ (ran-domain _ _ c.requires _ c.live_domain.ensures) _ _ _ c.in_ok-d.was (rw (← c.load-old.ensures, eq-eqb _ _ c.if-old-eq0.true) (refl, c.store.ensures)))

pub returns : goal.returns
unfolding set_interface
returns c = value_left (on-done _ _ _ _ (ran-domain _ _ c.requires _ c.live_domain.ensures) _ _ _ c.in_ok-d.was (rw (← c.load-old.ensures, ne_eqb _ _ c.if-old-eq0.false) (refl, stays _ c.requires)))

pub returns-in_err-d : goal.returns-in_err-d
unfolding set_interface
returns-in_err-d c = value_left (on-err _ _ _ _ (ran-domain _ _ c.requires _ c.live_domain.ensures) _ c.in_err-d.was _ c.from_residual.ensures.1)
