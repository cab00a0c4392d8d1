-- Onward with the right half's link.
use Rattle.region.proofs.Steps.{onward-done, onward-refused}
use Rattle.region.specs.Turns.{cut_end}
use Rattle.region.proofs.turns.cut_end.Goals as goal

pub returns-in-Ok : goal.returns-in-Ok
unfolding cut_end
returns-in-Ok c = let h = onward-done _ _ _ _ (rw c.slot_to.ensures at c.split_region_at.ensures.value, rw c.slot_to.ensures at c.split_region_at.ensures.left) _ c.in-Ok.is in record { value = h.0; left = h.1 }

pub returns-in-Err : goal.returns-in-Err
unfolding cut_end
returns-in-Err c = let h = onward-refused _ _ _ _ (rw c.slot_to.ensures at c.split_region_at.ensures.value, rw c.slot_to.ensures at c.split_region_at.ensures.left) _ c.in-Err.is in record { value = h.0; left = h.1 }
