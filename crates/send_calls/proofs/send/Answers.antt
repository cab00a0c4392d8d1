-- Step after step.
use Rattle.answers.specs.Then.{on-done, on-err}
use Rattle.checks.specs.Reads.{ran-caller, ran-target}
use Rattle.send_calls.specs.Parts.{send-is}
use Rattle.base.specs.Clauses.{value_left}
use Rattle.send_calls.proofs.send.Goals as goal

pub returns : goal.returns
returns c = rw send-is (value_left (on-done _ _ _ _ (ran-caller _ _ c.requires _ _ c.caller_with.ensures) _ _ _ c.in_ok-d.was (on-done _ _ _ _ (ran-target _ _ c.requires _ _ c.target_held.ensures) _ _ _ c.in_ok-to.was (on-done _ _ _ _ (c.reserve.ensures.value, c.reserve.ensures.left) _ _ _ c.in_ok-reserve.was (c.pass.ensures.value, c.pass.ensures.left)))))

pub returns-in_err-reserve : goal.returns-in_err-reserve
returns-in_err-reserve c = rw send-is (value_left (on-done _ _ _ _ (ran-caller _ _ c.requires _ _ c.caller_with.ensures) _ _ _ c.in_ok-d.was (on-done _ _ _ _ (ran-target _ _ c.requires _ _ c.target_held.ensures) _ _ _ c.in_ok-to.was (on-err _ _ _ _ (c.reserve.ensures.value, c.reserve.ensures.left) _ c.in_err-reserve.was _ c.from_residual-in_err-reserve.ensures.1))))

pub returns-in_err-to : goal.returns-in_err-to
returns-in_err-to c = rw send-is (value_left (on-done _ _ _ _ (ran-caller _ _ c.requires _ _ c.caller_with.ensures) _ _ _ c.in_ok-d.was (on-err _ _ _ _ (ran-target _ _ c.requires _ _ c.target_held.ensures) _ c.in_err-to.was _ c.from_residual-in_err-to.ensures.1)))

pub returns-in_err-d : goal.returns-in_err-d
returns-in_err-d c = rw send-is (value_left (on-err _ _ _ _ (ran-caller _ _ c.requires _ _ c.caller_with.ensures) _ c.in_err-d.was _ c.from_residual.ensures.1))
