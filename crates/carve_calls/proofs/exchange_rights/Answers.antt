-- Where the rights differ, step after step.
use mathlib.Core.Path.{refl}
use borrow.Author.Tests.{eq-eqb, ne_eqb}
use Rattle.answers.specs.Then.{stays, on-done, on-err}
use Rattle.carve_calls.specs.Calls.{exchange_rights}
use Rattle.base.specs.Clauses.{value_left}
use Rattle.carve_calls.proofs.exchange_rights.Goals as goal

pub returns-then-old-ops : goal.returns-then-old-ops
unfolding exchange_rights
returns-then-old-ops c = rw (eq-eqb _ _ c.if-old-ops.true) record { value = refl; left = stays _ c.requires }

pub returns : goal.returns
unfolding exchange_rights
returns c = rw (ne_eqb _ _ c.if-old-ops.false) (value_left (on-done _ _ _ _ (rw c.access.ensures at c.deactivate_region.ensures.value, rw c.access.ensures at c.deactivate_region.ensures.left) _ _ _ c.in_ok-deactivate_region.was (c.activate_region.ensures.value, c.activate_region.ensures.left)))

pub returns-in_err-deactivate_region : goal.returns-in_err-deactivate_region
unfolding exchange_rights
returns-in_err-deactivate_region c = rw (ne_eqb _ _ c.if-old-ops.false) (value_left (on-err _ _ _ _ (rw c.access.ensures at c.deactivate_region.ensures.value, rw c.access.ensures at c.deactivate_region.ensures.left) _ c.in_err-deactivate_region.was _ c.from_residual.ensures.1))
