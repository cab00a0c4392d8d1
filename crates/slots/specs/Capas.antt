-- The capabilities of domain d: what the calls on its list answer and leave.
use Rattle.std.specs.Prelude.{Bool, ℕ, ltb, get_or, Option, Some, None}
use Rattle.base.specs.Cases.{pick}
use Rattle.tables.specs.declared.Slot.{Slot}
use Rattle.tables.specs.Tables.{Tables}
use Rattle.slot_list.specs.declared.SlotList.{SlotList}
use Rattle.slot_list.specs.Lists.{free_slot, put_in, empty_slot, give_slot, take_slot}
use Rattle.slot_sweep.specs.Sweep.{swept}
use Rattle.stored_slots.specs.Record.{domain_or, list_at, with_list}

-- the list of domain d has a free slot
unfoldable pub room_b : Tables → ℕ → Bool
room_b s d = ltb (list_at s d).count (list_at s d).size

-- a full list is swept (the model's has_capacity)
unfoldable pub with_capacity : Tables → ℕ → Tables
with_capacity s d = pick (room_b s d) s (with_list s d (swept s (list_at s d)))

abbrev inserted_at : Tables → ℕ → SlotList → Slot → Option ℕ → Tables
inserted_at s d l x (Some i) = with_list s d (put_in l i x)
inserted_at s d l x None = s

-- the capability is in the slot that is given (the model's insert_capa)
unfoldable pub with_capa : Tables → ℕ → Slot → Tables
with_capa s d x = inserted_at s d (give_slot (list_at s d)).list x (give_slot (list_at s d)).at

-- slot i is freed (the model's remove_capa)
unfoldable pub without_capa : Tables → ℕ → ℕ → Tables
without_capa s d i = with_list s d (take_slot (list_at s d) i)

-- slot i is None, and in use (the model's empty_capa)
unfoldable pub with_empty : Tables → ℕ → ℕ → Tables
with_empty s d i = with_list s d (empty_slot (list_at s d) i)

-- what slot i holds (the model's capa_at)
unfoldable pub capa_at : Tables → ℕ → ℕ → Slot
capa_at s d i = get_or (domain_or s d).slots i (free_slot 0)
