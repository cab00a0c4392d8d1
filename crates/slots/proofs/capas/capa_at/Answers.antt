-- A slot of a domain, or none.
use Rattle.slots.specs.Steps.{capa-there, capa-past, capa-nowhere}
use Rattle.std.proofs.Common.{◌∙◌, refl}
use Rattle.slots.proofs.capas.capa_at.Goals as goal
use Rattle.slots.proofs.capas.capa_at.Goals.{else-d-size-via-then-d-size+else-i-size, else-d-size-via-else-d-size}

pub returns-then-i-size : goal.returns-then-i-size
returns-then-i-size c = c.load_slot.ensures ∙ capa-there _ _ _ c.size.ensures _ c.size-then-d-size.ensures _ c.if-d-size.true c.if-i-size.true

pub returns-else-d-size : goal.returns-else-d-size
returns-else-d-size c = c.free_slot.ensures ∙ elim c.else-d-size.branch [ else-d-size-via-then-d-size+else-i-size w ↦ capa-past _ _ _ c.size.ensures _ w.size-then-d-size.ensures _ w.if-d-size.true w.if-i-size.false | else-d-size-via-else-d-size w ↦ capa-nowhere _ _ _ c.size.ensures _ refl _ w.if-d-size.false ]
