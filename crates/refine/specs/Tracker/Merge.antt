-- The merge of a tracker: the code's walk does what the model's `coalesce` does. Each turn takes in the right neighbour or goes on to it, so that there are
-- as many turns as records, and one more. Invariant: every record slot is in use or free once.
use Rattle.std.specs.Prelude.{◌≡◌, true, false, eqb, length}
use Rattle.std.proofs.Math.Path.{refl, ap}
use Rattle.std.proofs.Common.{sym, ◌∙◌, arith, ne_eqb, Continue}
use Prim.Native.Nat.{ℕ, zero, suc, ◌+◌, ◌<◌}
use Rattle.std.proofs.Math.Option.{some}
use mathlib.Core.List.{List, [], ◌∷◌, ◌++◌}
use Rattle.base.specs.Cases.{holds, fails, test, pick}
use Rattle.rights.specs.Rights.{union}
use Rattle.model.specs.Outcome.{Outcome, ok, ◌>>=◌}
use Rattle.model.specs.State.{State, Record, Pool, Domain}
use Rattle.model.specs.Pool.{free}
use Rattle.model.specs.Layout.{link}
use Rattle.model.specs.Tracker.{Walk, with_end, mergeable, merge_into, coalesce}
use Rattle.laws.specs.Words.SameTrackers.{uses, first_slot}
use Rattle.laws.specs.Tracker.Pools.{uses-append}
use Rattle.tables.specs.declared.Region.{Region}
use Rattle.tables.specs.Tables.{Tables, record_at, with_record}
use Rattle.region.specs.declared.AccessRights.{AccessRights}
use Rattle.walk_cursors.specs.declared.Cursor.{Cursor}
use Rattle.region.specs.declared.Way.TheVariants.{Merge}
use Rattle.tables.specs.Links.{slot_to}
use Rattle.tracker_records.specs.Links.{freed_record}
use Rattle.region.specs.Turns.{to, over, onward, merge_at}
use Rattle.tracker.specs.Walks.{merge_turn, turn}
use Rattle.decoded.specs.Tables.{record_for, tables_of}
use Rattle.refine.specs.Agrees.{bind_assoc}
use Rattle.refine.specs.Tracker.Linked.{slot-of}
use Rattle.refine.specs.Tracker.RecordSteps.{tracked}
use Rattle.refine.specs.Tracker.RecordFrees.{moves_out}
use Rattle.refine.specs.Tracker.WalkSteps.{walked, ahead}
use Rattle.refine.specs.Tracker.TrackerCounts.{mergeable-is}
use Rattle.refine.specs.Tracker.Walking.{cursor, Fits, fits_moved, fits_on, row_here, row-after-here, joined-here}
use Rattle.refine.specs.Tracker.Walks.{Walks, behind, walks_same, walks-over, walks-on, walks-then}

-- ---- the model, as a walk

-- whatever was marked before
unfoldable pub joining : Outcome (List Record × Pool) → Outcome Walk
joining m = m >>= λ y. ok (walked y.0 y.1 0)

join-end : (q : Record) (p : Pool) → joining (merge_into q [] p) ≡ ok (walked (q ∷ []) p 0)
unfolding joining merge_into ◌>>=◌
join-end q p = refl

join-in : (q n : Record) (l : List Record) (p : Pool) → mergeable q n ≡ true → joining (merge_into q (n ∷ l) p) ≡ free n.slot p >>= λ p₁. joining (merge_into (with_end n.end q) l p₁)
unfolding joining merge_into
join-in q n l p e = rw e (bind_assoc (free n.slot p) _ _)

join-on : (q n : Record) (l : List Record) (p : Pool) → mergeable q n ≡ false → joining (merge_into q (n ∷ l) p) ≡ ahead (q ∷ []) 0 (joining (merge_into n l p))
unfolding joining merge_into ahead ◌>>=◌
join-on q n l p e = rw e (bind_assoc (merge_into n l p) _ _ ∙ sym (bind_assoc (merge_into n l p) _ _))

-- ---- the turns

module _ (s : State) (d : ℕ) (x : Domain) (a : AccessRights) (st z : ℕ) (b : List Record) (p : Pool) where
  abbrev tables : List Record → Tables
  tables l = tables_of (tracked s d x (b ++ l) p)

  turn-none : turn Merge (tables []) d a (cursor b [] st z) ≡ over (cursor b [] st z) (tables [])
  unfolding merge_turn cursor
  turn-none = refl

  module _ (q : Record) where
    -- the record at hand is read
    turn-row : (l : List Record) → Fits s d x (b ++ q ∷ l) p → (c : Cursor) → c.at ≡ suc q.slot
        → merge_turn (tables (q ∷ l)) c
        ≡ pick (eqb (link (first_slot l)) 0) (over c (tables (q ∷ l))) (merge_at (tables (q ∷ l)) c (record_for q (first_slot l)) (record_at (tables (q ∷ l)) (slot_to (link (first_slot l)))))
    unfolding merge_turn
    turn-row l h c e =
        let t = tables (q ∷ l) in
        let g : ℕ → Region → _ = λ k r. pick (eqb k 0) (over c t) (pick (eqb r.next 0) (over c t) (merge_at t c r (record_at t (slot_to r.next)))) in
        ap (λ (k : ℕ). g k (record_at t (slot_to k))) e
        ∙ ap (λ (i : ℕ). g (suc q.slot) (record_at t i)) (slot-of q.slot)
        ∙ ap (g (suc q.slot)) (row_here s d x b l q p h)
        ∙ rw (ne_eqb (suc q.slot) 0 (λ k. omega arith))

    turn_end : Fits s d x (b ++ q ∷ []) p → turn Merge (tables (q ∷ [])) d a (cursor b (q ∷ []) st z) ≡ over (cursor b (q ∷ []) st z) (tables (q ∷ []))
    unfolding cursor
    turn_end h = turn-row [] h (cursor b (q ∷ []) st z) refl

    module _ (n : Record) (l : List Record) (h : Fits s d x (b ++ q ∷ n ∷ l) p) where
      -- and the one behind it
      turn_two : turn Merge (tables (q ∷ n ∷ l)) d a (cursor b (q ∷ n ∷ l) st z)
          ≡ merge_at (tables (q ∷ n ∷ l)) (cursor b (q ∷ n ∷ l) st z) (record_for q (some n.slot)) (record_for n (first_slot l))
      unfolding cursor
      turn_two =
          let t = tables (q ∷ n ∷ l) in
          let c = cursor b (q ∷ n ∷ l) st z in
          turn-row (n ∷ l) h c refl
          ∙ rw (ne_eqb (suc n.slot) 0 (λ k. omega arith))
          (ap (λ (i : ℕ). merge_at t c (record_for q (some n.slot)) (record_at t i)) (slot-of n.slot) ∙ ap (merge_at t c (record_for q (some n.slot))) (row-after-here s d x b l q n p h))

      turn_in : mergeable q n ≡ true
          → turn Merge (tables (q ∷ n ∷ l)) d a (cursor b (q ∷ n ∷ l) st z)
          ≡ onward (freed_record (with_record (tables (q ∷ n ∷ l)) q.slot (record_for (with_end n.end q) (first_slot l))) n.slot) (λ v. cursor b (q ∷ n ∷ l) st z)
      unfolding merge_at cursor
      turn_in e =
          let t = tables (q ∷ n ∷ l) in
          let c = cursor b (q ∷ n ∷ l) st z in
          let r = record_for (with_end n.end q) (first_slot l) in
          turn_two
          ∙ rw (mergeable-is q n (some n.slot) (first_slot l) ∙ e)
          (ap (λ (i : ℕ). onward (freed_record (with_record t i r) (slot_to (suc n.slot))) (λ v. c)) (slot-of q.slot)
          ∙ ap (λ (i : ℕ). onward (freed_record (with_record t q.slot r) i) (λ v. c)) (slot-of n.slot))

      turn_on : mergeable q n ≡ false → turn Merge (tables (q ∷ n ∷ l)) d a (cursor b (q ∷ n ∷ l) st z) ≡ to (Continue (behind q (n ∷ l) st (union z 0))) (tables (q ∷ n ∷ l))
      unfolding merge_at cursor
      turn_on e = turn_two ∙ rw (mergeable-is q n (some n.slot) (first_slot l) ∙ e)

-- ---- the walk

module _ (s : State) (d : ℕ) (x : Domain) (a : AccessRights) (st : ℕ) where
  -- as many turns as there are records
  unfoldable MergeOk : List Record → Type 0
  MergeOk l =
      (n z : ℕ) (b : List Record) (q : Record) (p : Pool) → Fits s d x (b ++ q ∷ l) p → length l < n
      → Walks s d x a Merge n st z b (q ∷ l) p (joining (merge_into q l p))

  merge-end : MergeOk []
  unfolding MergeOk
  merge-end zero z b q p h k = absurd (omega arith)
  merge-end (suc n) z b q p h k = walks_same (join-end q p) (walks-over (turn_end s d x a st z b p q h))

  module _ (r : Record) (l : List Record) (after : MergeOk l) (n z : ℕ) (b : List Record) (q : Record) (p : Pool)
      (h : Fits s d x (b ++ q ∷ r ∷ l) p) (k : length l < n)
    where
      merge_in : mergeable q r ≡ true → Walks s d x a Merge (suc n) st z b (q ∷ r ∷ l) p (joining (merge_into q (r ∷ l) p))
      unfolding MergeOk cursor
      merge_in e =
          let m = with_end r.end q in
          let out : (i : ℕ) → uses i (b ++ q ∷ r ∷ l) ≡ uses i (b ++ m ∷ l) + uses i (r ∷ []) = λ i. omega (arith, uses-append i b (q ∷ r ∷ l), uses-append i b (m ∷ l)) in
          walks_same (join-in q r l p e)
          (walks-then _ _ (free r.slot p) (λ p₁. (0, tracked s d x (b ++ m ∷ l) p₁)) (λ p₁. joining (merge_into m l p₁))
          (turn_in s d x a st z b p q r l h e) (joined-here s d x b l q m r p h refl)
          (λ p₁ f. (after n z b m p₁ (fits_moved s d x (b ++ q ∷ r ∷ l) (b ++ m ∷ l) p p₁ h (moves_out p p₁ r (b ++ q ∷ r ∷ l) (b ++ m ∷ l) f out)) k).agrees))

      merge_on : mergeable q r ≡ false → Walks s d x a Merge (suc n) st z b (q ∷ r ∷ l) p (joining (merge_into q (r ∷ l) p))
      unfolding MergeOk
      merge_on e = walks_same (join-on q r l p e) (walks-on q 0 (turn_on s d x a st z b p q r l h e) (after n (union z 0) (b ++ q ∷ []) r p (fits_on s d x b (r ∷ l) q p h) k))

  merge-cons : (r : Record) (l : List Record) → MergeOk l → MergeOk (r ∷ l)
  unfolding MergeOk
  merge-cons r l i zero z b q p h k = absurd (omega arith)
  merge-cons r l i (suc n) z b q p h k = elim (test (mergeable q r)) [
    | holds e ↦ merge_in r l i n z b q p h (omega arith) e
    | fails e ↦ merge_on r l i n z b q p h (omega arith) e
  ]

  merge-ok : (l : List Record) → MergeOk l
  merge-ok [] = merge-end
  merge-ok (r ∷ l) = merge-cons r l (merge-ok l)

  -- from the head on, with n turns
  pub coalesce-walks : (n z : ℕ) (l : List Record) (p : Pool) → Fits s d x l p → length l < n → Walks s d x a Merge n st z [] l p (joining (coalesce l p))
  unfolding MergeOk coalesce joining ◌>>=◌
  coalesce-walks zero z l p h k = absurd (omega arith)
  coalesce-walks (suc n) z [] p h k = walks-over (turn-none s d x a st z [] p)
  coalesce-walks (suc n) z (q ∷ l) p h k = merge-ok l (suc n) z [] q p h (omega arith)
