-- Step after step.
use Rattle.answers.specs.Then.{on-done, on-err}
use Rattle.checks.specs.Reads.{ran-caller, ran-held}
use Rattle.carve_calls.specs.Parts.{carve-is}
use Rattle.base.specs.Clauses.{value_left}
use Rattle.carve_calls.proofs.carve_region.Goals as goal

pub returns : goal.returns
returns c = rw carve-is (value_left (on-done _ _ _ _ (ran-caller _ _ c.requires _ _ c.caller_with.ensures) _ _ _ c.in_ok-d.was (on-done _ _ _ _ (ran-held _ _ c.requires _ _ c.region_held.ensures) _ _ _ c.in_ok-p.was (on-done _ _ _ _ (c.room_for_region.ensures.value, c.room_for_region.ensures.left) _ _ _ c.in_ok-room_for_region.was (c.carve.ensures.value, c.carve.ensures.left)))))

pub returns-in_err-room_for_region : goal.returns-in_err-room_for_region
returns-in_err-room_for_region c = rw carve-is (value_left (on-done _ _ _ _ (ran-caller _ _ c.requires _ _ c.caller_with.ensures) _ _ _ c.in_ok-d.was (on-done _ _ _ _ (ran-held _ _ c.requires _ _ c.region_held.ensures) _ _ _ c.in_ok-p.was (on-err _ _ _ _ (c.room_for_region.ensures.value, c.room_for_region.ensures.left) _ c.in_err-room_for_region.was _ c.from_residual-in_err-room_for_region.ensures.1))))

pub returns-in_err-p : goal.returns-in_err-p
returns-in_err-p c = rw carve-is (value_left (on-done _ _ _ _ (ran-caller _ _ c.requires _ _ c.caller_with.ensures) _ _ _ c.in_ok-d.was (on-err _ _ _ _ (ran-held _ _ c.requires _ _ c.region_held.ensures) _ c.in_err-p.was _ c.from_residual-in_err-p.ensures.1)))

pub returns-in_err-d : goal.returns-in_err-d
returns-in_err-d c = rw carve-is (value_left (on-err _ _ _ _ (ran-caller _ _ c.requires _ _ c.caller_with.ensures) _ c.in_err-d.was _ c.from_residual.ensures.1))
