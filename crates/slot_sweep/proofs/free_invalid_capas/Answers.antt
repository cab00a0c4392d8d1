-- The slots from i on are left to sweep; those past the size are left as they are.
use Rattle.std.proofs.Common.{◌≡◌, ℕ, zero, suc, ◌-◌, ◌<◌, ◌≤◌, Bool, ltb, length, refl, sym, ◌∙◌, arith, lt-ltb, le-ltb}
use Rattle.base.specs.Cases.{cmp, lt, ge}
use Rattle.base.specs.Tests.{both}
use Rattle.sizes.specs.Limits.{most_slots}
use Rattle.tables.specs.declared.Slot.{Slot}
use Rattle.tables.specs.View.{view}
use Rattle.slot_list.specs.declared.SlotList.{SlotList}
use Rattle.slot_list.specs.Arrays.{length-mapped}
use Rattle.slot_sweep.specs.Sweep.{is_invalid_b, sweep_slot, sweep_from, sweep}
use Rattle.slot_sweep.specs.Steps.{sweep-turn, sweep-end, sweep-freed, sweep-left}
use Rattle.slot_sweep.proofs.free_invalid_capas.Goals as goal
use Rattle.slot_sweep.proofs.free_invalid_capas.Goals.{then-is_invalid, else-is_invalid}

within : (i n : ℕ) (b c : Bool) → i < n → b ≡ c → both (ltb i n) b ≡ c
within i n b c h e = rw (lt-ltb i n h, e)

sweep_past : (bad : Slot → Bool) (l : SlotList) (n i : ℕ) → l.size ≤ i → sweep_from bad n i l ≡ l
unfolding sweep_from sweep_slot
sweep_past bad l zero i h = refl
sweep_past bad l (suc n) i h = rw (le-ltb i l.size h) (sweep_past bad l n (suc i) (omega arith))

pub loop-i-preserved : goal.loop-i-preserved
loop-i-preserved c =
    let k = c.loop-i in
    let bad = is_invalid_b (view c.args.t.now) in
    let h : k.i < k.list.size = omega arith in
    let e : (c.if-is_invalid.list.size ≡ k.list.size) × (c.if-is_invalid.list ≡ sweep_slot bad k.list k.i) =
    elim c.if-is_invalid.branch [
      | then-is_invalid w ↦ rw (w.list-is, w.free_slot.ensures, w.less_one.ensures) (refl, sweep-freed bad k.list k.i _ _ _ refl c.is_invalid.ensures refl (within _ _ _ _ h w.if-is_invalid.true))
      | else-is_invalid w ↦ rw w.list-is (refl, sweep-left bad k.list k.i _ _ _ refl c.is_invalid.ensures refl (within _ _ _ _ h w.if-is_invalid.false))
    ] in
    record { size_kept = e.0 ∙ k.invariant.size_kept; swept = sweep-turn bad k.list k.i c.if-is_invalid.list (omega arith) e.1 ∙ k.invariant.swept }

pub returns : goal.returns
unfolding sweep
returns c =
    let k = c.loop-i in
    let n : length c.args.list.slots ≡ most_slots = search length-mapped in
    let bad = is_invalid_b (view c.args.t.now) in
    let rest : sweep_from bad (most_slots - k.i) k.i k.list ≡ k.list = elim (cmp k.i k.list.size) [ lt h ↦ sweep-end bad k.list k.i (omega arith) | ge h ↦ sweep_past bad k.list (most_slots - k.i) k.i h ] in
    sym rest ∙ k.invariant.swept ∙ rw n
