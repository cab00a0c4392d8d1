-- A new domain: an empty list and an empty tracker in a slot of its own (`Domain::new`), and an interface with all three bits (document 02, request
-- 2).
use Rattle.std.specs.Prelude.{ℕ, zero, suc, ◌+◌, List, [], ◌∷◌, ltb, Option, Some, None}
use Rattle.sizes.specs.Limits.{most_slots}
use Rattle.base.specs.Cases.{pick}
use Rattle.tables.specs.declared.Slot.{Slot}
use Rattle.tables.specs.declared.DomainHead.{DomainHead}
use Rattle.tables.specs.declared.Interface.{Interface}
use Rattle.tables.specs.Interface.{OPEN}
use Rattle.tables.specs.Tables.{Tables, no_slot, with_head, with_interface, with_domain_pool}
use Rattle.tables.specs.declared.Handle.{Handle}
use Rattle.arena.specs.Arena.{given, allocated}
use Rattle.refusals.specs.Refusals.{no_domain_room}
use Rattle.answers.specs.Answers.{Effect, done, refused}
use Rattle.slot_list.specs.declared.SlotList.{SlotList}
use Rattle.slot_list.specs.Lists.{free_slot}
use Rattle.stored_slots.specs.Record.{with_list}

-- m places from slot i on of a list of n slots: each free with the next behind it, 0 behind the last; past the n slots all zero
unfoldable pub fresh_from : ℕ → ℕ → ℕ → List Slot
fresh_from n zero i = []
fresh_from n (suc m) i = pick (ltb i n) (free_slot (pick (ltb (i + 1) n) (i + 1) 0)) no_slot ∷ fresh_from n m (suc i)

-- `FreeList::new`
unfoldable pub fresh_list : ℕ → SlotList
fresh_list n = record { slots = fresh_from n most_slots 0; head = 0; count = 0; size = n }

abbrev pub new_head : ℕ → ℕ → DomainHead
new_head manager cores = record { manager = manager; cores = cores; tracker = 0; head = 0; count = 0 }

abbrev pub open_interface : Interface
open_interface = record { word = OPEN; frozen = 0 }

abbrev pub taken : Tables → Tables
taken s = with_domain_pool s (allocated s.domain_pool)

abbrev opened_at : Tables → ℕ → ℕ → Option Handle → Effect
opened_at s manager cores (Some h) =
    done h.slot (with_interface (with_list (with_head (taken s) h.slot (new_head manager cores)) h.slot (fresh_list s.sizes.slots)) h.slot open_interface)
opened_at s manager cores None = refused no_domain_room (taken s)

-- with the link of its manager; the answer is the slot (the model's new_domain)
unfoldable pub new_domain : ℕ → ℕ → Tables → Effect
new_domain manager cores s = opened_at s manager cores (given s.domain_pool)
