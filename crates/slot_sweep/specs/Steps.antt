-- The steps of the sweep: what the values that it reads make of its tests.
use Rattle.std.specs.Prelude.{◌≡◌, Bool, true, false, [], ◌∷◌, ltb, get_or}
use Rattle.std.proofs.Common.{sym}
use Prim.Native.Nat.{ℕ, suc, ◌+◌, ◌-◌, ◌≤◌, ◌<◌}
use Rattle.std.proofs.Math.Numerals.{add-one}
use native.Mathlib.Omega.{arith}
use Rattle.std.proofs.Math.ListN.{get_or-eq_default}
use Rattle.sizes.specs.Limits.{most_slots}
use Rattle.base.specs.Cases.{cmp, lt, ge}
use Rattle.base.specs.Tests.{both}
use Rattle.tables.specs.declared.Slot.{Slot}
use Rattle.tables.specs.Tables.{no_slot}
use Rattle.slot_list.specs.declared.SlotList.{SlotList}
use Rattle.slot_list.specs.Lists.{freed}
use Rattle.slot_sweep.specs.Sweep.{by_kind, sweep_slot, sweep_from}

-- ---- a turn of the sweep

module _ (bad : Slot → Bool) (l : SlotList) (i : ℕ) where
  pub sweep-turn : (m : SlotList) → i < most_slots → m ≡ sweep_slot bad l i → sweep_from bad (most_slots - (i + 1)) (i + 1) m ≡ sweep_from bad (most_slots - i) i l
  unfolding sweep_from
  sweep-turn m h e = let n : most_slots - i ≡ suc (most_slots - suc i) = omega arith in rw (n, add-one, e)

  pub sweep-end : most_slots ≤ i → sweep_from bad (most_slots - i) i l ≡ l
  unfolding sweep_from
  sweep-end h = let n : most_slots - i ≡ 0 = omega arith in rw n

  module _ (b c : Bool) (x : Slot) (ex : x ≡ get_or l.slots i no_slot) (ec : c ≡ bad x) (eb : b ≡ both (ltb i l.size) c) where
    pub sweep-freed : b ≡ true → freed l i ≡ sweep_slot bad l i
    unfolding sweep_slot
    sweep-freed h = rw (← ex, ← ec, ← eb, h)

    pub sweep-left : b ≡ false → l ≡ sweep_slot bad l i
    unfolding sweep_slot
    sweep-left h = rw (← ex, ← ec, ← eb, h)

-- ---- the kinds

module _ (region domain : Bool) (k : ℕ) where
  pub by-region : 2 ≤ k → k ≤ 3 → region ≡ by_kind region domain k
  by-region lo hi = elim (cmp k 3) [ lt h ↦ let e : k ≡ 2 = omega arith in rw e | ge h ↦ let e : k ≡ 3 = omega arith in rw e ]

  pub by-domain : 4 ≤ k → k ≤ 5 → domain ≡ by_kind region domain k
  by-domain lo hi = elim (cmp k 5) [ lt h ↦ let e : k ≡ 4 = omega arith in rw e | ge h ↦ let e : k ≡ 5 = omega arith in rw e ]

  pub by-other : 5 < k → false ≡ by_kind region domain k
  by-other h = sym (get_or-eq_default (true ∷ false ∷ region ∷ region ∷ domain ∷ domain ∷ []) false {n = k} (omega arith))
