-- The sweep over all records: what is left of it from a link on is all of it.
use Rattle.std.specs.Prelude.{◌≡◌, Bool, true, false, ◌&&◌, List, [], ◌∷◌, ltb}
use Rattle.std.proofs.Math.Path.{refl, ap, ap₂}
use Rattle.std.proofs.Common.{sym, ◌∙◌}
use Prim.Native.Nat.{ℕ, zero, suc, ◌-◌, ◌<◌}
use native.Mathlib.Omega.{arith}
use borrow.Author.Tests.{ltb-true, ltb-false, lt-ltb}
use Rattle.base.specs.Tests.{both, both_true}
use Rattle.model.specs.State.{Record}
use Rattle.tables.specs.declared.Region.{Region}
use Rattle.tables.specs.Tables.{no_record}
use Rattle.sweep.specs.Sweep as sweep
use Rattle.sweep.specs.Sweep.{sweep_from}
use Rattle.sound_events.specs.Events.{events_in}
use Rattle.sweep_cursors.specs.declared.Cursor.{Cursor}
use Rattle.sweep_cursors.specs.Sums.{Low}
use Rattle.sweep_cursors.specs.Cursors.{cursor_in, First}
use Rattle.sweep_neighbours.specs.Follows.{record_from}
use Rattle.sound_sweep.specs.declared.Both.{Both}
use Rattle.sound_sweep.specs.Records.{chained}
use Rattle.sound_sweep.specs.Cursors.{rounds, Left}
use Rattle.sound_sweep.specs.Steps.{turn, ending, turn-slot, last-slot, sweep-turn, sweep-end}

-- ---- along the links

module _ (f : ℕ → Region) where
  chain_more : (n k : ℕ) → 0 < n → 0 < k → chained f n k ≡ record_from (k - 1) (f (k - 1)) ∷ chained f (n - 1) (f (k - 1)).next
  unfolding chained
  chain_more zero k h i = absurd (omega arith)
  chain_more (suc n) zero h i = absurd (omega arith)
  chain_more (suc n) (suc k) h i = let a : suc n - 1 ≡ n = omega arith in let b : suc k - 1 ≡ k = omega arith in rw (a, b)

  chain-none : (n k : ℕ) → both (ltb 0 n) (ltb 0 k) ≡ false → chained f n k ≡ []
  unfolding chained
  chain-none zero k h = refl
  chain-none (suc n) zero h = refl
  chain-none (suc n) (suc k) h = absurd (omega (arith, ltb-false 0 (suc k) (rw (lt-ltb 0 (suc n) (omega arith)) at h)))

-- ---- record by record

pub more : (n k : ℕ) → both (ltb 0 n) (ltb 0 k) ≡ true → (0 < n) × (0 < k)
more n k h = let u = both_true (ltb 0 n) (ltb 0 k) h in (ltb-true 0 n u.0, ltb-true 0 k u.1)

module _ (f : ℕ → Region) (s e : List ℕ) where
  -- from a link on, behind the record `last`
  abbrev pub rest : Cursor → Cursor → Region → ℕ → ℕ → Bool
  rest p m last link n = sweep_from (rounds s e) (record_from 0 last) (chained f n link) (cursor_in s p) (cursor_in e m)

  pub record Sweeping (whole : Bool) (p m : Cursor) (last : Region) (link n : ℕ) : Type 0 where
    pub starts : Low p.place p.sums
    pub ends : Low m.place m.sums
    pub left : rest p m last link n ≡ whole

  pub sweep-start : (n first : ℕ) (c : Cursor) (last : Region) → First c → last ≡ no_record → Sweeping (sweep.sweep (chained f n first) (events_in s) (events_in e)) c c last first n
  unfolding sweep.sweep
  sweep-start n first c last h k = record {
    starts = (h s).low;
    ends = (h e).low;
    left = ap (λ (b : Region). sweep_from (rounds s e) (record_from 0 b) (chained f n first) (cursor_in s c) (cursor_in e c)) k ∙ ap₂ (sweep_from (rounds s e) sweep.no_record (chained f n first)) (h s).is (h e).is;
  }

  module _ (whole : Bool) (p m : Cursor) (last : Region) (link n : ℕ) (h : Sweeping whole p m last link n) where
    pub sweep-stop : both (ltb 0 n) (ltb 0 link) ≡ false → (r : Bool) → r ≡ ending (record_from 0 last) (cursor_in s p) (cursor_in e m) → r ≡ whole
    sweep-stop k r t =
        t
        ∙ sym (sweep-end (rounds s e) (record_from 0 last) (cursor_in s p) (cursor_in e m))
        ∙ ap (λ (l : List Record). sweep_from (rounds s e) (record_from 0 last) l (cursor_in s p) (cursor_in e m)) (sym (chain-none f n link k))
        ∙ h.left

    module _ (go : both (ltb 0 n) (ltb 0 link) ≡ true) (x : Region) (b : Both) (read : x ≡ f (link - 1)) (l : Left s e (turn (rounds s e) (record_from 0 last) (record_from 0 x) (cursor_in s p) (cursor_in e m)) b) where
      -- the record x, and what is behind it
      opened : rest p m last link n ≡ b.ok && rest b.p b.m x x.next (n - 1)
      opened =
          let u = more n link go in
          let z = chain_more f n link u.0 u.1 in
          ap (λ (k : List Record). sweep_from (rounds s e) (record_from 0 last) k (cursor_in s p) (cursor_in e m)) (z ∙ ap (λ (y : Region). record_from (link - 1) y ∷ chained f (n - 1) y.next) (sym read))
          ∙ sweep-turn (rounds s e) (record_from 0 last) (record_from (link - 1) x) (chained f (n - 1) x.next) (cursor_in s p) (cursor_in e m)
          ∙ ap (λ (d : sweep.Both). d.ok && sweep_from (rounds s e) (record_from (link - 1) x) (chained f (n - 1) x.next) d.p d.m) (turn-slot (link - 1) x (rounds s e) (record_from 0 last) (cursor_in s p) (cursor_in e m))
          ∙ ap₂ ◌&&◌ (sym l.ok) (last-slot (link - 1) x (rounds s e) (chained f (n - 1) x.next) _ _ ∙ ap₂ (sweep_from (rounds s e) (record_from 0 x) (chained f (n - 1) x.next)) (sym l.p.is) (sym l.m.is))

      pub sweep-fails : b.ok ≡ false → false ≡ whole
      sweep-fails k = rw k at (sym opened) ∙ h.left

      pub sweep-goes : b.ok ≡ true → Sweeping whole b.p b.m x x.next (n - 1)
      sweep-goes k = record { starts = l.p.low; ends = l.m.low; left = rw k at (sym opened) ∙ h.left }
