-- Step after step.
use Rattle.answers.specs.Then.{on-done, on-err}
use Rattle.checks.specs.Reads.{ran-domain}
use Rattle.region_calls.specs.Parts.{root_is}
use Rattle.base.specs.Clauses.{value_left}
use Rattle.region_calls.proofs.create_root_region.Goals as goal

pub returns : goal.returns
returns c = rw root_is (value_left (on-done _ _ _ _ (ran-domain _ _ c.requires _ c.live_domain.ensures) _ _ _ c.in_ok-d.was (on-done _ _ _ _ (c.room_for_region.ensures.value, c.room_for_region.ensures.left) _ _ _ c.in_ok-room_for_region.was (c.root.ensures.value, c.root.ensures.left))))

pub returns-in_err-room_for_region : goal.returns-in_err-room_for_region
returns-in_err-room_for_region c = rw root_is (value_left (on-done _ _ _ _ (ran-domain _ _ c.requires _ c.live_domain.ensures) _ _ _ c.in_ok-d.was (on-err _ _ _ _ (c.room_for_region.ensures.value, c.room_for_region.ensures.left) _ c.in_err-room_for_region.was _ c.from_residual-in_err-room_for_region.ensures.1)))

pub returns-in_err-d : goal.returns-in_err-d
returns-in_err-d c = rw root_is (value_left (on-err _ _ _ _ (ran-domain _ _ c.requires _ c.live_domain.ensures) _ c.in_err-d.was _ c.from_residual.ensures.1))
