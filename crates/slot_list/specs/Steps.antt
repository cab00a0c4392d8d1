-- The steps of the functions: what the values that they read make of their tests and their answers.
use Rattle.std.specs.Prelude.{◌≡◌, refl, Bool, true, false, ℕ, ◌+◌, ◌≤◌, ◌<◌, ltb, length, get_or, take, Some, None}
use Rattle.std.proofs.Math.Path.{sym}
use Rattle.std.proofs.Common.{◌∙◌, lt-ltb, le-ltb, get_or-take}
use Rattle.std.proofs.Math.ListN.{get_or-eq_default}
use Rattle.base.specs.Tests.{both}
use Rattle.base.specs.Lists.{get_d_any}
use Rattle.tables.specs.declared.Slot.{Slot}
use Rattle.tables.specs.Tables.{no_slot}
use Rattle.slot_list.specs.declared.SlotList.{SlotList}
use Rattle.slot_list.specs.Lists.{free_slot, is_free_b, slot_in, put_in, gives_b, give_slot}

both-false : (b : Bool) → both b false ≡ false
both-false true = refl
both-false false = refl

-- ---- a list by value

module _ (l : SlotList) (i : ℕ) where
  pub slot-here : i < l.size → i < length l.slots → get_or l.slots i no_slot ≡ slot_in l i
  unfolding slot_in
  slot-here h hl = get_d_any l.slots i no_slot (free_slot 0) hl ∙ sym (get_or-take l.size l.slots i (free_slot 0) h)

  pub slot-past : length (take l.size l.slots) ≤ i → free_slot 0 ≡ slot_in l i
  unfolding slot_in
  slot-past h = sym (get_or-eq_default (take l.size l.slots) (free_slot 0) h)

-- what giving reads and tests
module _ (l : SlotList) (x : Slot) (free : Bool) (ex : x ≡ slot_in l l.head) (ef : free ≡ is_free_b x) where
  pub give-some : (m : SlotList) (z : Slot) → l.head < l.size → l.count < l.size → free ≡ true → z ≡ no_slot → m ≡ put_in l l.head z
      → record { at = Some l.head; list = record { slots = m.slots; head = x.handle.slot; count = l.count + 1; size = m.size } } ≡ give_slot l
  unfolding give_slot gives_b
  give-some m z h k e ez em = rw (lt-ltb _ _ h, lt-ltb _ _ k, ← ex, ← ef, e, em, ez)

  pub give-occupied : free ≡ false → record { at = None; list = l } ≡ give_slot l
  unfolding give_slot gives_b
  give-occupied e = rw (← ex, ← ef, e, both-false (both (ltb l.head l.size) (ltb l.count l.size)))

module _ (l : SlotList) where
  pub give-past : l.size ≤ l.head → record { at = None; list = l } ≡ give_slot l
  unfolding give_slot gives_b
  give-past h = rw (le-ltb _ _ h)

  pub give-full : l.size ≤ l.count → record { at = None; list = l } ≡ give_slot l
  unfolding give_slot gives_b
  give-full h = rw (le-ltb _ _ h, both-false (ltb l.head l.size))
