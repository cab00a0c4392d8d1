-- The merging walk follows, unless the first one is refused.
use Rattle.answers.specs.Then.{on-done, on-err}
use Rattle.base.specs.Clauses.{value_left}
use Rattle.tracker.specs.Walks.{add_region}
use Rattle.tracker.proofs.add_region.Goals as goal

pub returns : goal.returns
unfolding add_region
returns c = value_left (on-done _ _ _ _ (c.walk.ensures.value, c.walk.ensures.left) _ _ _ c.in_ok-marks.was (c.walk-2.ensures.value, c.walk-2.ensures.left))

pub returns-in_err-marks : goal.returns-in_err-marks
unfolding add_region
returns-in_err-marks c = value_left (on-err _ _ _ _ (c.walk.ensures.value, c.walk.ensures.left) _ c.in_err-marks.was _ c.from_residual.ensures.1)
