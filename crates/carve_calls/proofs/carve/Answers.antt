-- The check, then step after step.
use mathlib.Core.Path.{refl}
use Rattle.answers.specs.Then.{stays, on-done, on-err}
use Rattle.carve_calls.specs.Parts.{carved}
use Rattle.base.specs.Clauses.{value_left}
use Rattle.carve_calls.proofs.carve.Goals as goal

pub returns-then-not-check_carve : goal.returns-then-not-check_carve
unfolding carved
returns-then-not-check_carve c = rw (← c.check_carve.ensures, c.if-not-check_carve.true) record { value = refl; left = stays _ c.requires }

pub returns : goal.returns
unfolding carved
returns c = rw (← c.check_carve.ensures, c.if-not-check_carve.false) (value_left (on-done _ _ _ _ (c.add_child.ensures.value, c.add_child.ensures.left) _ _ _ c.in_ok-n.was (on-done _ _ _ _ (rw c.load-parent.ensures at c.exchange_rights.ensures.value, rw c.load-parent.ensures at c.exchange_rights.ensures.left) _ _ _ c.in_ok-exchange_rights.was (refl, stays _ c.exchange_rights.ensures.left.sized))))

pub returns-in_err-exchange_rights : goal.returns-in_err-exchange_rights
unfolding carved
returns-in_err-exchange_rights c = rw (← c.check_carve.ensures, c.if-not-check_carve.false) (value_left (on-done _ _ _ _ (c.add_child.ensures.value, c.add_child.ensures.left) _ _ _ c.in_ok-n.was (on-err _ _ _ _ (rw c.load-parent.ensures at c.exchange_rights.ensures.value, rw c.load-parent.ensures at c.exchange_rights.ensures.left) _ c.in_err-exchange_rights.was _ c.from_residual-in_err-exchange_rights.ensures.1)))

pub returns-in_err-n : goal.returns-in_err-n
unfolding carved
returns-in_err-n c = rw (← c.check_carve.ensures, c.if-not-check_carve.false) (value_left (on-err _ _ _ _ (c.add_child.ensures.value, c.add_child.ensures.left) _ c.in_err-n.was _ c.from_residual.ensures.1))
