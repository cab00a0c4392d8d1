-- The steps of the functions: what the values that they read make of their tests and their answers.
use Rattle.std.proofs.Math.Path.{◌≡◌, sym, ap}
use Rattle.std.specs.Prelude.{refl, Bool, true, false, List, ℕ, ◌-◌, ltb, get_or, ◌<◌, ◌≤◌, Some, None}
use Rattle.std.proofs.Common.{◌∙◌, arith}
use borrow.Author.Tests.{lt-ltb, le-ltb}
use Rattle.std.proofs.Math.ListN.{get_or-eq_default}
use Rattle.base.specs.Cases.{cmp, lt, ge}
use Rattle.base.specs.Tests.{both}
use Rattle.base.specs.Lists.{get_d_any}
use Rattle.tables.specs.declared.Slot.{Slot}
use Rattle.tables.specs.Tables.{no_slot, head_at, slot_at}
use Rattle.sizes.specs.Sizes.{sizes_of}
use Rattle.tables.specs.View.{view, Sized, Left}
use Rattle.slot_list.specs.declared.SlotList.{SlotList}
use Rattle.slot_list.specs.declared.Given.{Given}
use Rattle.slot_list.specs.Lists.{free_slot, put_in, give_slot}
use Rattle.slot_sweep.specs.Sweep.{swept}
use Rattle.stored_slots.specs.Record.{domain_or, list_of, list_at, with_list}
use Rattle.stored_slots.specs.Rows.{domain-slots, no-domain}
use Rattle.slots.specs.Capas.{room_b, with_capacity, with_capa, capa_at}

-- ---- a domain of the tables; its sizes are read from the words

module _ (t : List ℕ) (d n : ℕ) (en : n ≡ get_or t 0 0) (m : ℕ) (em : m ≡ get_or t 1 0) where
  pub room-is : (c : ℕ) → c ≡ (head_at (view t) d).count → both (ltb d n) (ltb c m) ≡ room_b (view t) d
  unfolding room_b list_at list_of head_at sizes_of
  room-is c ec =
      elim (cmp d n) [
        | lt h ↦ rw (lt-ltb d n h, ec, em) (ap (ltb (domain_or (view t) d).head.count) (sym (domain-slots t d (omega arith))))
        | ge h ↦ rw (le-ltb d n h, no-domain t d (omega arith))
      ]

  module _ (i : ℕ) where
    pub capa-there : d < n → i < m → slot_at (view t) d i ≡ capa_at (view t) d i
    unfolding slot_at capa_at sizes_of
    capa-there hd hi = get_d_any (domain_or (view t) d).slots i no_slot (free_slot 0) (omega (arith, domain-slots t d (omega arith)))

    pub capa-past : d < n → m ≤ i → free_slot 0 ≡ capa_at (view t) d i
    unfolding capa_at sizes_of
    capa-past hd hi = sym (get_or-eq_default (domain_or (view t) d).slots (free_slot 0) {n = i} (omega (arith, domain-slots t d (omega arith))))

    pub capa-nowhere : n ≤ d → free_slot 0 ≡ capa_at (view t) d i
    unfolding capa_at sizes_of
    capa-nowhere hd = rw (no-domain t d (omega arith))

-- ---- a full list is swept

module _ (t : List ℕ) (d : ℕ) (b : Bool) (eb : b ≡ room_b (view t) d) where
  pub capacity-kept : Sized t → b ≡ true → (true ≡ room_b (with_capacity (view t) d) d) × Left t (with_capacity (view t) d)
  unfolding with_capacity
  capacity-kept s h = rw (← eb, h) (sym (sym eb ∙ h), record { seen = refl; sized = s })

  pub capacity-swept : (u : List ℕ) (l : SlotList) (r : Bool) → b ≡ false → l ≡ swept (view t) (list_at (view t) d) → Left u (with_list (view t) d l)
      → r ≡ room_b (view u) d → (r ≡ room_b (with_capacity (view t) d) d) × Left u (with_capacity (view t) d)
  unfolding with_capacity
  capacity-swept u l r h el left er = rw (← eb, h, ← el) (er ∙ ap (λ s. room_b s d) left.seen, left)

-- ---- a capability is put into the slot that is given

module _ (t : List ℕ) (d : ℕ) (x : Slot) (g : Given) (e : g ≡ give_slot (list_at (view t) d)) where
  pub capa-inserted : (u : List ℕ) (i : ℕ) (l : SlotList) → g.at ≡ Some i → l ≡ put_in g.list i x → Left u (with_list (view t) d l)
      → (Some i ≡ (give_slot (list_at (view t) d)).at) × Left u (with_capa (view t) d x)
  unfolding with_capa
  capa-inserted u i l ei el left = rw (← e, ei, ← el) (refl, left)

  pub capa-full : g.at ≡ None → Sized t → (g.at ≡ (give_slot (list_at (view t) d)).at) × Left t (with_capa (view t) d x)
  unfolding with_capa
  capa-full ef s = rw (← e, ef) (refl, record { seen = refl; sized = s })
