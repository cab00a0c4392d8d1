-- A full list is swept and put back.
use Rattle.slots.specs.Steps.{capacity-kept, capacity-swept}
use borrow.Author.Rules.{rules}
use mathlib.Core.Path.{◌∙◌}
use Rattle.slots.proofs.capas.has_capacity_for.Goals as goal

pub returns-then-has_room : goal.returns-then-has_room
returns-then-has_room c = let h = capacity-kept _ _ _ c.has_room.ensures c.requires c.if-has_room.true in record { value = h.0; left = h.1 }

pub returns : goal.returns
returns c = let h = capacity-swept _ _ _ c.has_room.ensures _ _ _ c.if-has_room.false (c.free_invalid_capas-list.ensures ∙ rw c.load_list.ensures) c.store_list.ensures c.has_room-2.ensures in record { value = h.0; left = h.1 }
