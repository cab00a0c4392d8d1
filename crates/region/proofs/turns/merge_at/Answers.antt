-- The right record is taken in and freed, or it is the next.
use Rattle.region.proofs.Steps.{onward-done, onward-refused}
use Rattle.region.specs.Turns.{merge_at}
use Rattle.answers.specs.Then.{stays}
use Rattle.region.proofs.turns.merge_at.Goals as goal

pub returns-then-not-mergeable : goal.returns-then-not-mergeable
unfolding merge_at
returns-then-not-mergeable c = rw (← c.mergeable.ensures, c.if-not-mergeable.true) record { value = c.going.ensures; left = stays _ c.requires }

pub returns-in-Ok : goal.returns-in-Ok
unfolding merge_at
returns-in-Ok c = rw (← c.mergeable.ensures, c.if-not-mergeable.false) (let h = onward-done _ _ _ _ (rw (c.slot_to-2.ensures, c.store.ensures.seen, c.bounded.ensures, c.slot_to.ensures) at c.free.ensures.value, rw (c.slot_to-2.ensures, c.store.ensures.seen, c.bounded.ensures, c.slot_to.ensures) at c.free.ensures.left) _ c.in-Ok.is in record { value = h.0; left = h.1 })

pub returns-in-Err : goal.returns-in-Err
unfolding merge_at
returns-in-Err c = rw (← c.mergeable.ensures, c.if-not-mergeable.false) (let h = onward-refused _ _ _ _ (rw (c.slot_to-2.ensures, c.store.ensures.seen, c.bounded.ensures, c.slot_to.ensures) at c.free.ensures.value, rw (c.slot_to-2.ensures, c.store.ensures.seen, c.bounded.ensures, c.slot_to.ensures) at c.free.ensures.left) _ c.in-Err.is in record { value = h.0; left = h.1 })
