-- The head of no domain counts no slot.
use Rattle.slots.specs.Steps.{room-is}
use Rattle.tables.specs.declared.DomainHead.{DomainHead}
use Rattle.std.proofs.Common.{ap, lt-ltb, le-ltb}
use Rattle.slots.proofs.capas.has_room.Goals as goal

pub returns-then-d-size : goal.returns-then-d-size
returns-then-d-size c = rw (← room-is _ _ _ c.size-2.ensures _ c.size.ensures _ (ap (λ (h : DomainHead). h.count) c.load-h.ensures), lt-ltb _ _ c.if-d-size.true)

pub returns-else-d-size : goal.returns-else-d-size
returns-else-d-size c = rw (← room-is _ _ _ c.size-2.ensures _ c.size.ensures _ (ap (λ (h : DomainHead). h.count) c.load-h.ensures), le-ltb _ _ c.if-d-size.false)
