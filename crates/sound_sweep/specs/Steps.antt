-- The sweep's steps as the code has them: one record, and the end. The slot of a record does not matter.
use Rattle.std.specs.Prelude.{◌≡◌, Bool, ◌&&◌, eqb, leb, length, drop, if◌then◌else◌}
use Rattle.std.proofs.Math.Path.{refl, ap}
use Rattle.std.proofs.Common.{sym, ap₂, ◌∙◌, drop_of_length-le, drop-cons, le-leb}
use mathlib.Core.List.{List, [], ◌∷◌}
use Prim.Native.Nat.{ℕ, zero, suc, ◌/◌}
use Rattle.std.proofs.Math.Dec.{ltb}
use Rattle.std.proofs.lemmas.Bool.{lt-leb}
use Rattle.base.specs.Cases.{lt, ge, cmp}
use Rattle.base.specs.Tests.{both}
use Rattle.model.specs.Lists.{is_empty}
use Rattle.model.specs.State.{Record}
use Rattle.tables.specs.declared.Region.{Region}
use Rattle.sweep.specs.Events.{Event}
use Rattle.sweep.specs.Sort.{no_event}
use Rattle.sweep.specs.Sweep as sweep
use Rattle.sweep.specs.Sweep.{upto, next_of, agrees, same, inside, sweep_from}
use Rattle.sound_events.specs.Events.{events_in}
use Rattle.sound_events.specs.Words.{length-events}
use Rattle.sweep_cursors.specs.declared.Cursor.{Cursor}
use Rattle.sweep_cursors.specs.Sums.{counts_of, counts_from}
use Rattle.sweep_cursors.specs.Tests.{two}
use Rattle.sweep_cursors.specs.Cursors.{cursor_in, At}
use Rattle.sweep_neighbours.specs.Follows.{record_from, follows}
use Rattle.sound_sweep.specs.declared.Both.{Both}
use Rattle.sound_sweep.specs.Cursors.{rounds, Left}

-- what record q behind b leaves
abbrev pub turn : ℕ → Record → Record → sweep.Cursor → sweep.Cursor → sweep.Both
turn n b q p m =
    let m₁ = upto b.end m in
    let r = inside n q (upto q.start p) (upto q.start m₁) in
    record { p = r.p; m = r.m; ok = follows b q p m₁.sums && r.ok }

-- behind the last record b
abbrev pub ending : Record → sweep.Cursor → sweep.Cursor → Bool
ending b p m = is_empty p.ahead && same p (upto b.end m)

-- ---- a whole turn, of the code's cursors

module _ (s e : List ℕ) where
  left_at : {d d' : sweep.Both} {r : Both} → d ≡ d' → Left s e d r → Left s e d' r
  left_at f h = rw f at h

  -- t stands at the end of b, p₁ and m₁ at the start of q
  pub turned : (b q : Region) (p m t p₁ m₁ : Cursor) (r : Both) (may ok : Bool)
      → At e t (upto b.end (cursor_in e m))
      → may ≡ follows (record_from 0 b) (record_from 0 q) (cursor_in s p) (counts_of t.sums)
      → At s p₁ (upto q.start (cursor_in s p))
      → At e m₁ (upto q.start (cursor_in e t))
      → Left s e (inside (rounds s e) (record_from 0 q) (cursor_in s p₁) (cursor_in e m₁)) r
      → ok ≡ both may r.ok
      → Left s e (turn (rounds s e) (record_from 0 b) (record_from 0 q) (cursor_in s p) (cursor_in e m)) (record { p = r.p; m = r.m; ok = ok })
  turned b q p m t p₁ m₁ r may ok ht hf hp hm hr ho =
      let l = left_at (ap₂ (inside (rounds s e) (record_from 0 q)) hp.is (hm.is ∙ ap (upto q.start) ht.is)) hr in
      record {
        p = l.p;
        m = l.m;
        ok = ho ∙ two may r.ok ∙ ap₂ ◌&&◌ (hf ∙ ap (λ (d : sweep.Cursor). follows (record_from 0 b) (record_from 0 q) (cursor_in s p) d.sums) ht.is) l.ok;
      }

-- ---- the end

none_left : (l : List Event) (i : ℕ) → leb (length l) i ≡ is_empty (drop i l)
none_left l i = elim (cmp i (length l)) [
  | lt h ↦ lt-leb (length l) i h ∙ rw (drop-cons l i no_event h)
  | ge h ↦ le-leb (length l) i h ∙ rw (drop_of_length-le l h)
]

pub ended : (s e : List ℕ) (b : Region) (p m t : Cursor) → At e t (upto b.end (cursor_in e m)) → both (leb (length s / 2) p.place) (eqb p.sums.ref_count t.sums.ref_count) ≡ ending (record_from 0 b) (cursor_in s p) (cursor_in e m)
ended s e b p m t h =
    two (leb (length s / 2) p.place) (eqb p.sums.ref_count t.sums.ref_count)
    ∙ ap₂ ◌&&◌ (ap (λ n. leb n p.place) (sym (length-events s)) ∙ none_left (events_in s) p.place) (ap (same (cursor_in s p)) h.is)

-- ---- the slot of a record does not matter

module _ (i : ℕ) (q : Region) where
  inside-slot : (n : ℕ) (p m : sweep.Cursor) → inside n (record_from i q) p m ≡ inside n (record_from 0 q) p m
  unfolding inside
  inside-slot zero p m = refl
  inside-slot (suc n) p m =
      let a = next_of p m q.end in
      let b = agrees p.sums m.sums (counts_from q) in
      ap (λ (x : sweep.Both). if b && ltb a q.end then x else record { p = p; m = m; ok = b }) (inside-slot n (upto a p) (upto a m))

  pub turn-slot : (n : ℕ) (b : Record) (p m : sweep.Cursor) → turn n b (record_from i q) p m ≡ turn n b (record_from 0 q) p m
  turn-slot n b p m =
      ap (λ (r : sweep.Both). record { p = r.p; m = r.m; ok = follows b (record_from 0 q) p (upto b.end m).sums && r.ok })
      (inside-slot n (upto q.start p) (upto q.start (upto b.end m)))

  pub last-slot : (n : ℕ) (l : List Record) (p m : sweep.Cursor) → sweep_from n (record_from i q) l p m ≡ sweep_from n (record_from 0 q) l p m
  unfolding sweep_from
  last-slot n [] p m = refl
  last-slot n (x ∷ l) p m = refl

pub sweep-turn : (n : ℕ) (b q : Record) (l : List Record) (p m : sweep.Cursor) → sweep_from n b (q ∷ l) p m ≡ (turn n b q p m).ok && sweep_from n q l (turn n b q p m).p (turn n b q p m).m
unfolding sweep_from
sweep-turn n b q l p m = refl

pub sweep-end : (n : ℕ) (b : Record) (p m : sweep.Cursor) → sweep_from n b [] p m ≡ ending b p m
unfolding sweep_from
sweep-end n b p m = refl
