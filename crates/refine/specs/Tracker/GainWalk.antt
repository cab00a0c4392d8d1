-- The code's gain, turn by turn, against the model's walk. Induction along the records that are to come; a record takes three turns at most: a gap filled
-- or a cut at the range's start, a cut at the range's end, the counts raised. The walk stops where the range is done: the records rise, so that the
-- model changes nothing more.
-- Invariant (`Left`): slots in use or free once; the rest rises, from the range's start on if the range is done; its counts can be raised.
use Rattle.std.specs.Prelude.{◌≡◌, length}
use Rattle.std.proofs.Math.Path.{refl}
use Prim.Native.Nat.{ℕ, zero, suc, ◌+◌, ◌*◌, ◌≤◌, ◌<◌, min}
use mathlib.Core.List.{List, [], ◌∷◌, ◌++◌}
use Rattle.std.proofs.Common.{arith, le_refl}
use Rattle.base.specs.Cases.{lt, ge, cmp}
use Rattle.rights.specs.Rights.{union}
use Rattle.model.specs.Lists.{Each}
use Rattle.model.specs.Outcome.{◌>>=◌}
use Rattle.refusals.specs.Refusals.{no_tracker}
use Rattle.model.specs.State.{State, Record, Pool, Domain}
use Rattle.model.specs.Pool.{allocate}
use Rattle.model.specs.Layout.{link}
use Rattle.model.specs.Tracker.{with_end, add_region}
use Rattle.model.specs.Sound.{Rising}
use Rattle.laws.specs.Words.SameTrackers.{first_slot}
use Rattle.laws.specs.Tracker.Pools.{uses-append}
use Rattle.laws.specs.Tracker.Span.{weaken-rising}
use Rattle.tables.specs.Tables.{Tables}
use Rattle.region.specs.declared.AccessRights.{AccessRights}
use Rattle.region.specs.declared.Way.TheVariants.{Add}
use Rattle.region.specs.Turns.{onward}
use Rattle.tracker.specs.Walks.{turn}
use Rattle.tracker_records.specs.Links.{inserted}
use Rattle.decoded.specs.Tables.{record_for, tables_of}
use Rattle.refine.specs.Agrees.{agrees-call}
use Rattle.refine.specs.Tracker.Linked.{last_link}
use Rattle.refine.specs.Tracker.RecordSteps.{tracked, from}
use Rattle.refine.specs.Tracker.WalkSteps.{ahead}
use Rattle.refine.specs.Tracker.GainSteps.{new_record, raised_record, fills, raises, add_done, add-last, add-gap, add-pass, add-cut, add-raise, add-trim}
use Rattle.refine.specs.Tracker.TrackerCounts.{Raisable}
use Rattle.refine.specs.Tracker.Walking.{cursor, finish-ahead, Fits, fits_on, fits_in_lem, fits_kept, inserted-here}
use Rattle.refine.specs.Tracker.Walks.{Walks, walks_same, walks-over, behind-last, walks-on, walks-then, walks-cut, walks-trim}
use Rattle.refine.specs.Tracker.GainTurns.{turn-done, turn_last, turn_gap, turn-pass, turn-cut, turn-trim, turn-raise}

module _ (s : State) (d : ℕ) (x : Domain) (a : AccessRights) where
  abbrev r : ℕ
  r = a.ops.0

  abbrev e : ℕ
  e = a.end

  -- n turns on the rest l, from st on
  abbrev Gains : ℕ → ℕ → ℕ → List Record → List Record → Pool → Type 0
  Gains n st z b l p = Walks s d x a Add n st z b l p (add_region r st e l p)

  -- ---- one turn

  gain-over : (n st z : ℕ) (b l : List Record) (p : Pool) → e ≤ st → Rising st l → Gains (suc n) st z b l p
  gain-over n st z b l p h o = walks_same (add_done r st e l p h o) (walks-over (turn-done s d x a st z b p l h))

  -- a gap is filled up to c
  module _ (n st c z : ℕ) (b l : List Record) (p : Pool) (h : Fits s d x (b ++ l) p) where
    abbrev t : Tables
    t = tables_of (tracked s d x (b ++ l) p)

    gain-fill : turn Add t d a (cursor b l st z)
        ≡ onward (inserted t d (last_link b) (record_for (new_record r st c 0) (first_slot l))) (λ k. record { prev = k; at = link (first_slot l); start = c; marks = union z (fills r) })
        → add_region r st e l p ≡ allocate no_tracker p >>= (λ y. ahead (new_record r st c y.0 ∷ []) (fills r) (add_region r c e l y.1))
        → ((i : ℕ) (p₁ : Pool) → Fits s d x ((b ++ new_record r st c i ∷ []) ++ l) p₁ → Gains n c (union z (fills r)) (b ++ new_record r st c i ∷ []) l p₁) → Gains (suc n) st z b l p
    gain-fill e₁ e₂ k =
        walks_same e₂
        (walks-then _ _ (allocate no_tracker p) (λ y. (suc y.0, tracked s d x (b ++ new_record r st c y.0 ∷ l) y.1))
        (λ y. ahead (new_record r st c y.0 ∷ []) (fills r) (add_region r c e l y.1))
        e₁ (inserted-here s d x b l p h (new_record r st c 0)) (λ y f.
        let q = new_record r st c y.0 in
        let g = fits_in_lem s d x (b ++ l) (b ++ q ∷ l) p y q h f refl (λ j. omega (arith, uses-append j b l, uses-append j b (q ∷ l))) in
        agrees-call _ _ _ (finish-ahead s d x z (fills r) b (q ∷ []) (add_region r c e l y.1))
        (behind-last b q (k y.0 y.1 (fits_on s d x b l q y.1 g)))))

  module _ (n st z : ℕ) (b : List Record) (q : Record) (l : List Record) (p : Pool) (h : Fits s d x (b ++ q ∷ l) p) (todo : st < e) (some-of-it : q.start < q.end) where
    gain-pass : q.end ≤ st → Gains n st (union z 0) (b ++ q ∷ []) l p → Gains (suc n) st z b (q ∷ l) p
    gain-pass m k = walks_same (add-pass r st e p todo q l some-of-it m) (walks-on q 0 (turn-pass s d x a st z b p todo q l h (omega arith) m) k)

    gain-cut : q.start < st → st < q.end
        → ((i : ℕ) (p₁ : Pool) → Fits s d x ((b ++ with_end st q ∷ []) ++ from st i q ∷ l) p₁ → Gains n st z (b ++ with_end st q ∷ []) (from st i q ∷ l) p₁) → Gains (suc n) st z b (q ∷ l) p
    gain-cut m o k =
        walks_same (add-cut r st e p todo q l some-of-it m o)
        (walks-cut s d x a Add st n st z b q l p h (λ i p₁. add_region r st e (from st i q ∷ l) p₁) (turn-cut s d x a st z b p todo q l h m o) k)

    module _ (same : q.start ≡ st) where
      gain-trim : e < q.end → Rising q.end l
          → ((i : ℕ) (p₁ : Pool) → Fits s d x (b ++ with_end e q ∷ from e i q ∷ l) p₁ → Gains n st z b (with_end e q ∷ from e i q ∷ l) p₁) → Gains (suc n) st z b (q ∷ l) p
      gain-trim m o k =
          walks_same (add-trim r st e p todo q l same m o)
          (walks-trim s d x a Add e n st z b q l p h (λ i p₁. add_region r st e (with_end e q ∷ from e i q ∷ l) p₁) (turn-trim s d x a st z b p todo q l h same some-of-it m) k)

      gain-raise : q.end ≤ e → Raisable q.counts → Gains n q.end (union z (raises r q)) (b ++ raised_record r q ∷ []) l p → Gains (suc n) st z b (q ∷ l) p
      gain-raise m u k =
          walks_same (add-raise r st e p todo q l some-of-it same m) (walks-on (raised_record r q) (raises r q) (turn-raise s d x a st z b p todo q l h same some-of-it m u) k)

  -- ---- the walk

  -- what is known of the rest
  record Left (st : ℕ) (b l : List Record) (p : Pool) : Type 0 where
    fits : Fits s d x (b ++ l) p
    rising : Rising 0 l
    done : e ≤ st → Rising st l
    raisable : Each (λ q. Raisable q.counts) l

  unfoldable GainOk : List Record → Type 0
  GainOk l = (n st z : ℕ) (b : List Record) (p : Pool) → Left st b l p → 3 * length l + 2 ≤ n → Gains n st z b l p

  -- no record is left: the last gap, and the end
  gain-nil : GainOk []
  unfolding GainOk
  gain-nil zero st z b p h k = absurd (omega arith)
  gain-nil (suc zero) st z b p h k = absurd (omega arith)
  gain-nil (suc (suc n)) st z b p h k = elim (cmp st e) [
    | lt t ↦
        gain-fill (suc n) st e z b [] p h.fits (turn_last s d x a st z b p t) (add-last r st e p t) (λ i p₁ g.
        gain-over n e _ (b ++ new_record r st e i ∷ []) [] p₁ (le_refl e) tt)
    | ge t ↦ gain-over (suc n) st z b [] p t tt
  ]

  module _ (l : List Record) (after : GainOk l) (ls : Each (λ q. Raisable q.counts) l) where
    -- the range starts with record q
    module _ (q : Record) (some-of-it : q.start < q.end) (o : Rising q.end l) (u : Raisable q.counts) where
      gain-from : (n st z : ℕ) (b : List Record) (p : Pool) → Fits s d x (b ++ q ∷ l) p → q.start ≡ st → st < e → 3 * length l + 1 ≤ n → Gains (suc (suc (suc n))) st z b (q ∷ l) p
      unfolding GainOk
      gain-from n st z b p h same todo k = elim (cmp e q.end) [
        | lt t ↦
            gain-trim (suc (suc n)) st z b q l p h todo some-of-it same t o (λ i p₁ g.
            gain-raise (suc n) st z b (with_end e q) (from e i q ∷ l) p₁ g todo (omega arith) same (le_refl e) u
            (gain-over n e _ (b ++ raised_record r (with_end e q) ∷ []) (from e i q ∷ l) p₁ (le_refl e) (le_refl e, t, o)))
        | ge t ↦
            let c = b ++ raised_record r q ∷ [] in
            gain-raise (suc (suc n)) st z b q l p h todo some-of-it same t u (after (suc (suc n)) q.end _ c p (record {
              fits = fits_kept s d x (b ++ q ∷ l) (c ++ l) p h (λ j. omega (arith, uses-append j b (q ∷ l), uses-append j b (raised_record r q ∷ []), uses-append j c l));
              rising = weaken-rising 0 q.end l (omega arith) o;
              done = λ v. o;
              raisable = ls;
            }) (omega arith))
      ]

  module _ (q : Record) (l : List Record) (after : GainOk l) (n st z : ℕ) (b : List Record) (p : Pool) (h : Left st b (q ∷ l) p) (k : 3 * length l + 1 ≤ n) (t : st < e) where
    abbrev ls : Each (λ q. Raisable q.counts) l
    ls = h.raisable.1

    abbrev o : Rising 0 (q ∷ l)
    o = h.rising

    -- a gap before q, and then q where the range goes on
    gain-gap : st < q.start → Gains (suc (suc (suc (suc n)))) st z b (q ∷ l) p
    gain-gap u =
        gain-fill (suc (suc (suc n))) st (min e q.start) z b (q ∷ l) p h.fits (turn_gap s d x a st z b p t q l h.fits u) (add-gap r st e p t q l o.1 u) (λ i p₁ g.
        let c = b ++ new_record r st (min e q.start) i ∷ [] in
        elim (cmp q.start e) [
          | lt v ↦ gain-from l after ls q o.1 o.2 h.raisable.0 n (min e q.start) _ c p₁ g (omega arith) (omega arith) k
          | ge v ↦ gain-over (suc (suc n)) (min e q.start) _ c (q ∷ l) p₁ (omega arith) (omega arith, o.1, o.2)
        ])

    -- no gap before q
    gain-here : q.start ≤ st → Gains (suc (suc (suc (suc n)))) st z b (q ∷ l) p
    unfolding GainOk
    gain-here u = elim (cmp st q.end) [
      | ge v ↦
          gain-pass (suc (suc (suc n))) st z b q l p h.fits t o.1 v (after (suc (suc (suc n))) st (union z 0) (b ++ q ∷ []) p (record {
            fits = fits_on s d x b l q p h.fits;
            rising = weaken-rising 0 q.end l (omega arith) o.2;
            done = λ v. absurd (omega arith);
            raisable = ls;
          }) (omega arith))
      | lt v ↦ elim (cmp q.start st) [
        | lt w ↦
            gain-cut (suc (suc (suc n))) st z b q l p h.fits t o.1 w v (λ i p₁ g.
            gain-from l after ls (from st i q) v o.2 h.raisable.0 n st z (b ++ with_end st q ∷ []) p₁ g refl t k)
        | ge w ↦ gain-from l after ls q o.1 o.2 h.raisable.0 (suc n) st z b p h.fits (omega arith) t (omega arith)
      ]
    ]

  gain-cons : (q : Record) (l : List Record) → GainOk l → GainOk (q ∷ l)
  unfolding GainOk
  gain-cons q l after zero st z b p h k = absurd (omega arith)
  gain-cons q l after (suc zero) st z b p h k = absurd (omega arith)
  gain-cons q l after (suc (suc zero)) st z b p h k = absurd (omega arith)
  gain-cons q l after (suc (suc (suc zero))) st z b p h k = absurd (omega arith)
  gain-cons q l after (suc (suc (suc (suc n)))) st z b p h k = elim (cmp st e) [
    | ge t ↦ gain-over (suc (suc (suc n))) st z b (q ∷ l) p t (h.done t)
    | lt t ↦ elim (cmp st q.start) [ lt u ↦ gain-gap q l after n st z b p h (omega arith) t u | ge u ↦ gain-here q l after n st z b p h (omega arith) t u ]
  ]

  gain-ok : (l : List Record) → GainOk l
  gain-ok [] = gain-nil
  gain-ok (q ∷ l) = gain-cons q l (gain-ok l)

  -- from the head on, with n turns
  pub gain-walks : (n st : ℕ) (l : List Record) (p : Pool) → Fits s d x l p → Rising 0 l → st < e → Each (λ q. Raisable q.counts) l → 3 * length l + 2 ≤ n
      → Walks s d x a Add n st 0 [] l p (add_region a.ops.0 st a.end l p)
  unfolding GainOk
  gain-walks n st l p h o t u k = gain-ok l n st 0 [] p (record { fits = h; rising = o; done = λ v. absurd (omega arith); raisable = u }) k
