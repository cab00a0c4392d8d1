-- The lowered record is stored, or unlinked and freed.
use Rattle.tables.specs.Zero.{record-zero}
use Rattle.region.proofs.Steps.{onward-done, onward-refused}
use Rattle.loss_turns.proofs.Steps.{lower-kept, lower-gone}
use Rattle.loss_turns.proofs.lower.Goals as goal

pub returns-then-p-ne0 : goal.returns-then-p-ne0
returns-then-p-ne0 c = rw c.going.ensures (let h = lower-kept _ _ _ _ _ _ c.decrease-p.ensures _ _ c.if-p-ne0.true c.crossings.ensures (rw c.slot_to-i.ensures at c.store.ensures) in record { value = h.0; left = h.1 })

pub returns-in-Ok : goal.returns-in-Ok
returns-in-Ok c = rw (lower-gone _ _ _ _ _ _ c.decrease-p.ensures c.if-p-ne0.false, c.dropped.ensures, c.crossings-in-Ok.ensures, record-zero c.default.result c.default.ensures) (let h = onward-done _ _ _ _ (rw (c.set_next.ensures.seen, c.slot_to-i.ensures) at c.free.ensures.value, rw (c.set_next.ensures.seen, c.slot_to-i.ensures) at c.free.ensures.left) _ c.in-Ok.is in record { value = h.0; left = h.1 })

pub returns-in-Err : goal.returns-in-Err
returns-in-Err c = rw (lower-gone _ _ _ _ _ _ c.decrease-p.ensures c.if-p-ne0.false) (let h = onward-refused _ _ _ _ (rw (c.set_next.ensures.seen, c.slot_to-i.ensures) at c.free.ensures.value, rw (c.set_next.ensures.seen, c.slot_to-i.ensures) at c.free.ensures.left) _ c.in-Err.is in record { value = h.0; left = h.1 })
