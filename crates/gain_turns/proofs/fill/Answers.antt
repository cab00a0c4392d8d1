-- Onward with the new record's link and its marks.
use Rattle.tables.specs.Zero.{record-zero}
use Rattle.region.proofs.Steps.{onward-done, onward-refused}
use Rattle.gain_turns.specs.Turns.{fill_turn}
use Rattle.gain_turns.proofs.fill.Goals as goal

pub returns-in-Ok : goal.returns-in-Ok
unfolding fill_turn
returns-in-Ok c = rw (c.crossings.ensures, record-zero c.default.result c.default.ensures, c.new-q.ensures) (let h = onward-done _ _ _ _ (rw c.new-q.ensures at c.insert.ensures.value, rw c.new-q.ensures at c.insert.ensures.left) _ c.in-Ok.is in record { value = h.0; left = h.1 })

pub returns-in-Err : goal.returns-in-Err
unfolding fill_turn
returns-in-Err c = let h = onward-refused _ _ _ _ (rw c.new-q.ensures at c.insert.ensures.value, rw c.new-q.ensures at c.insert.ensures.left) _ c.in-Err.is in record { value = h.0; left = h.1 }
