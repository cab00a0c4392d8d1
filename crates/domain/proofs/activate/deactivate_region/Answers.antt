-- One step after the other.
use Rattle.domain.specs.Activate.{deactivate}
use Rattle.answers.specs.Then.{on-done, on-err}
use Rattle.domain.proofs.activate.deactivate_region.Goals as goal

pub returns : goal.returns
unfolding deactivate
returns c = let h = on-done _ _ _ _ (c.remove_region.ensures.value, c.remove_region.ensures.left) _ _ _ c.in_ok-marks.was (c.notify_if.ensures.value, c.notify_if.ensures.left) in record { value = h.0; left = h.1 }

pub returns-in_err-marks : goal.returns-in_err-marks
unfolding deactivate
returns-in_err-marks c = let h = on-err _ _ _ _ (c.remove_region.ensures.value, c.remove_region.ensures.left) _ c.in_err-marks.was _ c.from_residual.ensures.1 in record { value = h.0; left = h.1 }
