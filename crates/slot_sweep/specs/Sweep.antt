-- **Sweep** (document 01); the model's free_invalid_capas.
use Rattle.std.specs.Prelude.{Bool, true, false, not, [], ◌∷◌, ℕ, zero, suc, ltb, length, get_or}
use Rattle.base.specs.Cases.{pick}
use Rattle.base.specs.Tests.{both}
use Rattle.tables.specs.declared.Slot.{Slot}
use Rattle.tables.specs.Tables.{Tables, no_slot}
use Rattle.arena.specs.Arena.{live_b}
use Rattle.slot_list.specs.declared.SlotList.{SlotList}
use Rattle.slot_list.specs.Lists.{freed}

-- slot i is freed where the test holds of it
unfoldable pub sweep_slot : (Slot → Bool) → SlotList → ℕ → SlotList
sweep_slot bad l i = pick (both (ltb i l.size) (bad (get_or l.slots i no_slot))) (freed l i) l

-- n slots from i on, rising
unfoldable pub sweep_from : (Slot → Bool) → ℕ → ℕ → SlotList → SlotList
sweep_from bad zero i l = l
sweep_from bad (suc n) i l = sweep_from bad n (suc i) (sweep_slot bad l i)

unfoldable pub sweep : (Slot → Bool) → SlotList → SlotList
sweep bad l = sweep_from bad (length l.slots) 0 l

-- by the kinds 0 to 5: None; free; Region and RegionRevoke; Management and Channel
abbrev pub by_kind : Bool → Bool → ℕ → Bool
by_kind region domain k = get_or (true ∷ false ∷ region ∷ region ∷ domain ∷ domain ∷ []) k false

-- None or a dead handle (the model's is_invalid)
unfoldable pub is_invalid_b : Tables → Slot → Bool
is_invalid_b s x = by_kind (not (live_b s.region_pool x.handle)) (not (live_b s.domain_pool x.handle)) x.kind

-- **Sweep** (the model's free_invalid_capas)
abbrev pub swept : Tables → SlotList → SlotList
swept s l = sweep (is_invalid_b s) l
