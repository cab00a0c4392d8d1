-- A cursor's moves and looks ahead, in the words of its run.
use Rattle.std.specs.Prelude.{◌≡◌, List, ℕ, ◌+◌, ◌*◌, ◌/◌, ◌≤◌, ◌<◌, min, length, drop, get_or}
use Rattle.std.proofs.Math.Path.{refl}
use Rattle.std.proofs.Common.{sym, ap, ◌∙◌, arith}
use Rattle.model.specs.Tracker.{no_counts, raise}
use Rattle.sweep.specs.Sweep.{pass, upto, next}
use Rattle.sweep.proofs.Loops.{place-go, place-stop, place_end, place-next, place_none}
use Rattle.sound_events.specs.Events.{events_in}
use Rattle.sound_events.specs.Words.{length-events, address-in, rights-in}
use Rattle.sweep_cursors.specs.declared.Sums.{Sums}
use Rattle.sweep_cursors.specs.declared.Cursor.{Cursor}
use Rattle.sweep_cursors.specs.Sums.{counts_of, Low, none-low, raise-low}
use Rattle.sweep_cursors.specs.Cursors.{cursor_in, At, First}

pub first : (s : Sums) → counts_of s ≡ no_counts → First (record { place = 0; sums = s })
first s e p = record { low = none-low s 0 e; is = λ t. record { sums = e t; ahead = events_in p } }

module _ (s : List ℕ) (x : ℕ) (c : Cursor) where
  -- at place i with the sums k: what is left of the move is all of it
  pub record Moving (i : ℕ) (k : Sums) : Type 0 where
    pub low : Low i k
    pub rest : pass x (counts_of k) (drop i (events_in s)) ≡ upto x (cursor_in s c)

  pub move_start : Low c.place c.sums → Moving c.place c.sums
  unfolding upto
  move_start h = record { low = h; rest = refl }

  module _ (i : ℕ) (k : Sums) (h : Moving i k) where
    pub move-go : (t : Sums) → i < length s / 2 → get_or s (2 * i) 0 ≤ x → counts_of t ≡ raise (get_or s (2 * i + 1) 0) (counts_of k) → Moving (i + 1) t
    move-go t u v e = record {
      low = raise-low k t (get_or s (2 * i + 1) 0) i h.low e;
      rest =
          ap (λ z. pass x z (drop (i + 1) (events_in s))) (e ∙ ap (λ z. raise z (counts_of k)) (sym (rights-in s i u)))
          ∙ sym (place-go (events_in s) i x (counts_of k) (omega (arith, length-events s)) (omega (arith, address-in s i u)))
          ∙ h.rest;
    }

    pub move-stop : i < length s / 2 → x < get_or s (2 * i) 0 → At s (record { place = i; sums = k }) (upto x (cursor_in s c))
    move-stop u v = record { low = h.low; is = sym (place-stop (events_in s) i x (counts_of k) (omega (arith, length-events s)) (omega (arith, address-in s i u))) ∙ h.rest }

    pub move-end : length s / 2 ≤ i → At s (record { place = i; sums = k }) (upto x (cursor_in s c))
    move-end u = record { low = h.low; is = sym (place_end (events_in s) i x (counts_of k) (omega (arith, length-events s))) ∙ h.rest }

module _ (s : List ℕ) (i y : ℕ) where
  pub next-there : i < length s / 2 → next (drop i (events_in s)) y ≡ min (get_or s (2 * i) 0) y
  next-there h = place-next (events_in s) i y (omega (arith, length-events s)) ∙ ap (λ z. min z y) (address-in s i h)

  pub next-none : length s / 2 ≤ i → y ≡ next (drop i (events_in s)) y
  next-none h = sym (place_none (events_in s) i y (omega (arith, length-events s)))
