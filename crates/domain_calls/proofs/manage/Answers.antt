-- Step after step.
use mathlib.Core.Path.{refl}
use Rattle.answers.specs.Then.{stays, on-done, on-err}
use Rattle.domain_calls.specs.Parts.{managed}
use Rattle.base.specs.Clauses.{value_left}
use Rattle.domain_calls.proofs.manage.Goals as goal

pub returns : goal.returns
unfolding managed
returns c = value_left (on-done _ _ _ _ (c.reserve.ensures.value, c.reserve.ensures.left) _ _ _ c.in_ok-reserve.was (on-done _ _ _ _ (rw c.generation.ensures at c.insert.ensures.value, rw c.generation.ensures at c.insert.ensures.left) _ _ _ c.in_ok-insert.was (refl, stays _ c.insert.ensures.left.sized)))

pub returns-in_err-insert : goal.returns-in_err-insert
unfolding managed
returns-in_err-insert c = value_left (on-done _ _ _ _ (c.reserve.ensures.value, c.reserve.ensures.left) _ _ _ c.in_ok-reserve.was (on-err _ _ _ _ (rw c.generation.ensures at c.insert.ensures.value, rw c.generation.ensures at c.insert.ensures.left) _ c.in_err-insert.was _ c.from_residual-in_err-insert.ensures.1))

pub returns-in_err-reserve : goal.returns-in_err-reserve
unfolding managed
returns-in_err-reserve c = value_left (on-err _ _ _ _ (c.reserve.ensures.value, c.reserve.ensures.left) _ c.in_err-reserve.was _ c.from_residual.ensures.1)
