-- A domain's slot list by value, with its free list (free_list.rs; document 01, "Arenas").
use Rattle.std.specs.Prelude.{Bool, ℕ, ◌+◌, ◌-◌, ltb, eqb, get_or, set, take, replicate, Some, None}
use Rattle.sizes.specs.Limits.{most_slots}
use Rattle.base.specs.Cases.{pick}
use Rattle.base.specs.Tests.{both}
use Rattle.tables.specs.declared.Slot.{Slot}
use Rattle.tables.specs.Kinds.{FREE}
use Rattle.tables.specs.Tables.{no_slot}
use Rattle.slot_list.specs.declared.SlotList.{SlotList}
use Rattle.slot_list.specs.declared.Given.{Given}

-- the list of what is no domain
abbrev pub no_list : SlotList
no_list = record { slots = replicate most_slots no_slot; head = 0; count = 0; size = 0 }

abbrev pub free_slot : ℕ → Slot
free_slot next = record { kind = FREE; handle = record { slot = next; generation = 0 } }

abbrev pub is_free_b : Slot → Bool
is_free_b x = eqb x.kind FREE

-- slot i; past the size a free one
unfoldable pub slot_in : SlotList → ℕ → Slot
slot_in l i = get_or (take l.size l.slots) i (free_slot 0)

abbrev pub put_in : SlotList → ℕ → Slot → SlotList
put_in l i x = record { slots = set l.slots i x; head = l.head; count = l.count; size = l.size }

unfoldable pub empty_slot : SlotList → ℕ → SlotList
empty_slot l i = pick (is_free_b (slot_in l i)) l (put_in l i no_slot)

-- ---- `FreeList::allocate`; the model's insert_local

-- a slot is free
unfoldable pub gives_b : SlotList → Bool
gives_b l = both (both (ltb l.head l.size) (ltb l.count l.size)) (is_free_b (slot_in l l.head))

-- the head is in use, and the slot behind it is the head
abbrev pub allocated : SlotList → SlotList
allocated l =
    record { slots = set l.slots l.head no_slot; head = (slot_in l l.head).handle.slot; count = l.count + 1; size = l.size }

unfoldable pub give_slot : SlotList → Given
give_slot l = pick (gives_b l) (record { at = Some l.head; list = allocated l }) (record { at = None; list = l })

-- ---- `FreeList::free`; the model's free_local

-- slot i is the head, with the old head behind it
abbrev pub freed : SlotList → ℕ → SlotList
freed l i = record { slots = set l.slots i (free_slot l.head); head = i; count = l.count - 1; size = l.size }

unfoldable pub take_slot : SlotList → ℕ → SlotList
take_slot l i = pick (is_free_b (slot_in l i)) l (freed l i)
