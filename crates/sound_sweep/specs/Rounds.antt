-- The rounds inside a record: what is left of them from here is all of them.
use Rattle.std.specs.Prelude.{◌≡◌, refl, Bool, true, false, List, ℕ, ◌≤◌, ◌<◌, ltb, drop}
use Rattle.std.proofs.Common.{sym, ap, ap₂, ◌∙◌, arith, length-drop, ltb-true, ltb-false}
use Rattle.base.specs.Tests.{both, both_true}
use Rattle.tables.specs.declared.Region.{Region}
use Rattle.sweep.specs.Sweep as sweep
use Rattle.sweep.specs.Sweep.{upto, next, next_of, agrees, inside}
use Rattle.sweep.proofs.Cursor.{left, round-shorter}
use Rattle.sweep.proofs.Loops.{inside-go, inside-stop, inside-fail}
use Rattle.sound_events.specs.Events.{events_in}
use Rattle.sweep_cursors.specs.declared.Cursor.{Cursor}
use Rattle.sweep_cursors.specs.Sums.{counts_of, counts_from, Low}
use Rattle.sweep_cursors.specs.Cursors.{cursor_in, At}
use Rattle.sweep_neighbours.specs.Follows.{record_from}
use Rattle.sound_sweep.specs.Cursors.{rounds, Left}

-- how many events are ahead
abbrev pub events : List ℕ → List ℕ → Cursor → Cursor → ℕ
events s e p m = left (cursor_in s p) (cursor_in e m)

module _ (s e : List ℕ) (q : Region) where
  abbrev pub rest : Cursor → Cursor → sweep.Both
  rest p m = inside (rounds s e) (record_from 0 q) (cursor_in s p) (cursor_in e m)

  -- the cursors p and m, the test of their sums, and the next event up to the end of q
  pub record Round (p₀ m₀ p m : Cursor) (ok : Bool) (at : ℕ) : Type 0 where
    pub starts : Low p.place p.sums
    pub ends : Low m.place m.sums
    pub tested : ok ≡ agrees (counts_of p.sums) (counts_of m.sums) (counts_from q)
    pub ahead : at ≡ next_of (cursor_in s p) (cursor_in e m) q.end
    pub left : rest p m ≡ rest p₀ m₀

  -- the next event, as the code works it out
  next-of : (p m : Cursor) (n at : ℕ) → n ≡ next (drop p.place (events_in s)) q.end → at ≡ next (drop m.place (events_in e)) n → at ≡ next_of (cursor_in s p) (cursor_in e m) q.end
  next-of p m n at h k = k ∙ ap (next (drop m.place (events_in e))) h

  pub round-start : (p m : Cursor) (ok : Bool) (n at : ℕ) → Low p.place p.sums → Low m.place m.sums → ok ≡ agrees (counts_of p.sums) (counts_of m.sums) (counts_from q)
      → n ≡ next (drop p.place (events_in s)) q.end → at ≡ next (drop m.place (events_in e)) n → Round p m p m ok at
  round-start p m ok n at lp lm t h k = record { starts = lp; ends = lm; tested = t; ahead = next-of p m n at h k; left = refl }

  module _ (p₀ m₀ p m : Cursor) (ok : Bool) (at : ℕ) (r : Round p₀ m₀ p m ok at) where
    room : left (cursor_in s p) (cursor_in e m) ≤ rounds s e
    room = omega (arith, length-drop p.place (events_in s), length-drop m.place (events_in e))

    module _ (go : both ok (ltb at q.end) ≡ true) (p₁ m₁ : Cursor) (hp : At s p₁ (upto at (cursor_in s p))) (hm : At e m₁ (upto at (cursor_in e m))) where
      inner : next_of (cursor_in s p) (cursor_in e m) q.end < q.end
      inner = omega (arith, r.ahead, ltb-true at q.end (both_true ok (ltb at q.end) go).1)

      start_is : cursor_in s p₁ ≡ upto (next_of (cursor_in s p) (cursor_in e m) q.end) (cursor_in s p)
      start_is = hp.is ∙ ap (λ a. upto a (cursor_in s p)) r.ahead

      end_is : cursor_in e m₁ ≡ upto (next_of (cursor_in s p) (cursor_in e m) q.end) (cursor_in e m)
      end_is = hm.is ∙ ap (λ a. upto a (cursor_in e m)) r.ahead

      pub round-less : events s e p₁ m₁ < events s e p m
      round-less = omega (arith, ap₂ left start_is end_is, round-shorter q.end (cursor_in s p) (cursor_in e m) inner)

      pub round-go : (ok₁ : Bool) (n at₁ : ℕ) → ok₁ ≡ agrees (counts_of p₁.sums) (counts_of m₁.sums) (counts_from q)
          → n ≡ next (drop p₁.place (events_in s)) q.end → at₁ ≡ next (drop m₁.place (events_in e)) n → Round p₀ m₀ p₁ m₁ ok₁ at₁
      round-go ok₁ n at₁ t h k = record {
        starts = hp.low;
        ends = hm.low;
        tested = t;
        ahead = next-of p₁ m₁ n at₁ h k;
        left =
            ap₂ (inside (rounds s e) (record_from 0 q)) start_is end_is
            ∙ sym (inside-go (record_from 0 q) (rounds s e) (cursor_in s p) (cursor_in e m) room (sym r.tested ∙ (both_true ok (ltb at q.end) go).0) inner)
            ∙ r.left;
      }

    stopped : both ok (ltb at q.end) ≡ false → rest p m ≡ record { p = cursor_in s p; m = cursor_in e m; ok = ok }
    stopped h = by ok r.tested h
      where
        by : (b : Bool) → b ≡ agrees (counts_of p.sums) (counts_of m.sums) (counts_from q) → both b (ltb at q.end) ≡ false → rest p m ≡ record { p = cursor_in s p; m = cursor_in e m; ok = b }
        by false t h = inside-fail (record_from 0 q) (rounds s e) (cursor_in s p) (cursor_in e m) (sym t)
        by true t h =
            inside-stop (record_from 0 q) (rounds s e) (cursor_in s p) (cursor_in e m) (omega (arith, r.ahead, ltb-false at q.end h))
            ∙ ap (λ b. record { p = cursor_in s p; m = cursor_in e m; ok = b }) (sym t)

    pub round-end : both ok (ltb at q.end) ≡ false → Left s e (rest p₀ m₀) (record { p = p; m = m; ok = ok })
    round-end h =
        let x = sym (stopped h) ∙ r.left in
        record {
          p = record { low = r.starts; is = ap (λ (b : sweep.Both). b.p) x };
          m = record { low = r.ends; is = ap (λ (b : sweep.Both). b.m) x };
          ok = ap (λ (b : sweep.Both). b.ok) x;
        }
