-- The turns of the code's gain, by where the range starts and ends about the record at hand. b is done, the rest is to come; the rest of the range
-- starts at st. Each law says what the turn does to the tables of the state in the middle of the walk.
use Rattle.std.specs.Prelude.{◌≡◌, refl, ltb}
use Rattle.std.proofs.Math.Path.{ap}
use Rattle.std.proofs.Common.{◌∙◌, arith, Continue}
use Prim.Native.Nat.{ℕ, suc, ◌≤◌, ◌<◌, min}
use mathlib.Core.List.{List, [], ◌∷◌, ◌++◌}
use borrow.Author.Tests.{lt-ltb, le-ltb, ne_eqb, le-leb, lt-leb}
use Rattle.base.specs.Cases.{lt, ge, cmp, pick, pick-t, pick-f}
use Rattle.rights.specs.Rights.{union}
use Rattle.model.specs.State.{State, Record, Pool, Domain}
use Rattle.model.specs.Layout.{link}
use Rattle.laws.specs.Words.SameTrackers.{first_slot}
use Rattle.tables.specs.declared.Region.{Region}
use Rattle.tables.specs.Tables.{Tables, no_record, record_at, with_record}
use Rattle.region.specs.declared.AccessRights.{AccessRights}
use Rattle.walk_cursors.specs.declared.Cursor.{Cursor}
use Rattle.region.specs.declared.Way.TheVariants.{Add}
use Rattle.tables.specs.Links.{slot_to}
use Rattle.tracker_records.specs.Links.{inserted, split}
use Rattle.counts.specs.Counts.{crossings_of}
use Rattle.walk_cursors.specs.Cursors.{next_of}
use Rattle.region.specs.Turns.{Turn, to, over, onward, cut_start, cut_end}
use Rattle.gain_turns.specs.Turns.{fill_turn, raise_turn}
use Rattle.tracker.specs.Walks.{add_at, add_turn, turn}
use Rattle.decoded.specs.Tables.{record_for, tables_of}
use Rattle.refine.specs.Tracker.Linked.{slot-of, last_link}
use Rattle.refine.specs.Tracker.RecordSteps.{tracked}
use Rattle.refine.specs.Tracker.GainSteps.{new_record, raised_record, fills, raises}
use Rattle.refine.specs.Tracker.TrackerCounts.{Raisable, made-is, raised_is, crossings-is, fills-is}
use Rattle.refine.specs.Tracker.Walking.{cursor, Fits, row_here, changed-here}
use Rattle.refine.specs.Tracker.Walks.{behind}

pick-min : (m e : ℕ) → pick (ltb m e) m e ≡ min e m
pick-min m e = elim (cmp m e) [
  | lt h ↦ let k : min e m ≡ m = omega arith in rw (lt-ltb m e h, k)
  | ge h ↦ let k : min e m ≡ e = omega arith in rw (le-ltb m e h, k)
]

-- the five cases, for a record with its row
module _ (t : Tables) (d : ℕ) (a : AccessRights) (c : Cursor) (q : Region) where
  at_gap : c.start < q.start → add_at t d a c q ≡ fill_turn t d a c (pick (ltb q.start a.end) q.start a.end)
  unfolding add_at
  at_gap h = pick-t _ _ _ (lt-ltb c.start q.start h)

  at-pass : q.start ≤ c.start → q.end ≤ c.start → add_at t d a c q ≡ to (Continue (next_of c q.next c.start 0)) t
  unfolding add_at
  at-pass h k = pick-f _ _ _ (le-ltb c.start q.start h) ∙ pick-t _ _ _ (le-leb q.end c.start k)

  at_cut : q.start < c.start → c.start < q.end → add_at t d a c q ≡ cut_start t c
  unfolding add_at
  at_cut h k = pick-f _ _ _ (le-ltb c.start q.start (omega arith)) ∙ pick-f _ _ _ (lt-leb q.end c.start k) ∙ pick-t _ _ _ (lt-ltb q.start c.start h)

  at-start : q.start ≡ c.start → c.start < q.end → add_at t d a c q ≡ pick (ltb a.end q.end) (cut_end t c a.end) (raise_turn t a c q)
  unfolding add_at
  at-start h k = pick-f _ _ _ (le-ltb c.start q.start (omega arith)) ∙ pick-f _ _ _ (lt-leb q.end c.start k) ∙ pick-f _ _ _ (le-ltb q.start c.start (omega arith))

module _ (s : State) (d : ℕ) (x : Domain) (a : AccessRights) (st z : ℕ) (b : List Record) (p : Pool) where
  abbrev tables : List Record → Tables
  tables l = tables_of (tracked s d x (b ++ l) p)

  -- the range is done
  pub turn-done : (l : List Record) → a.end ≤ st → turn Add (tables l) d a (cursor b l st z) ≡ over (cursor b l st z) (tables l)
  unfolding add_turn cursor
  turn-done l h = rw (le-leb a.end st h)

  fill_is : (l : List Record) (e : ℕ) → fill_turn (tables l) d a (cursor b l st z) e
      ≡ onward (inserted (tables l) d (last_link b) (record_for (new_record a.ops.0 st e 0) (first_slot l))) (λ k. record { prev = k; at = link (first_slot l); start = e; marks = union z (fills a.ops.0) })
  unfolding fill_turn cursor
  fill_is l e =
      let next : Region → ℕ → Turn = λ q m. onward (inserted (tables l) d (last_link b) q) (λ k. record { prev = k; at = link (first_slot l); start = e; marks = union z m }) in
      ap (λ (q : Region). next q (crossings_of no_record q)) (made-is a.ops.0 st e 0 (first_slot l))
      ∙ ap (next (record_for (new_record a.ops.0 st e 0) (first_slot l))) (fills-is a.ops.0 st e 0 (first_slot l))

  module _ (todo : st < a.end) where
    -- no record is left
    pub turn_last : turn Add (tables []) d a (cursor b [] st z)
        ≡ onward (inserted (tables []) d (last_link b) (record_for (new_record a.ops.0 st a.end 0) (first_slot []))) (λ k. record { prev = k; at = link (first_slot []); start = a.end; marks = union z (fills a.ops.0) })
    unfolding add_turn cursor
    turn_last = pick-f _ _ _ (lt-leb a.end st todo) ∙ fill_is [] a.end

    module _ (q : Record) (l : List Record) (h : Fits s d x (b ++ q ∷ l) p) where
      abbrev t : Tables
      t = tables (q ∷ l)

      abbrev c : Cursor
      c = cursor b (q ∷ l) st z

      abbrev row : Region
      row = record_for q (first_slot l)

      turn-row : turn Add t d a c ≡ add_at t d a c row
      unfolding add_turn cursor
      turn-row =
          rw (lt-leb a.end st todo, ne_eqb (suc q.slot) 0 (λ k. omega arith)) (ap (λ (i : ℕ). add_at t d a c (record_at t i)) (slot-of q.slot) ∙ ap (add_at t d a c) (row_here s d x b l q p h))

      -- a gap before q
      pub turn_gap : st < q.start → turn Add t d a c
          ≡ onward (inserted t d (last_link b) (record_for (new_record a.ops.0 st (min a.end q.start) 0) (first_slot (q ∷ l))))
          (λ k. record { prev = k; at = link (first_slot (q ∷ l)); start = min a.end q.start; marks = union z (fills a.ops.0) })
      unfolding cursor
      turn_gap k = turn-row ∙ at_gap t d a c row k ∙ ap (fill_turn t d a c) (pick-min q.start a.end) ∙ fill_is (q ∷ l) (min a.end q.start)

      -- q lies before the range
      pub turn-pass : q.start ≤ st → q.end ≤ st → turn Add t d a c ≡ to (Continue (behind q l st (union z 0))) t
      unfolding cursor
      turn-pass k m = turn-row ∙ at-pass t d a c row k m

      -- the range starts inside q
      pub turn-cut : q.start < st → st < q.end → turn Add t d a c ≡ onward (split t q.slot st) (λ k. record { prev = suc q.slot; at = k; start = st; marks = z })
      unfolding cut_start cursor
      turn-cut k m = turn-row ∙ at_cut t d a c row k m ∙ ap (λ (i : ℕ). onward (split t i st) (λ k. record { prev = suc q.slot; at = k; start = st; marks = z })) (slot-of q.slot)

      module _ (same : q.start ≡ st) (some-of-it : q.start < q.end) where
        -- the range starts with q, and ends inside it
        pub turn-trim : a.end < q.end → turn Add t d a c ≡ onward (split t q.slot a.end) (λ k. c)
        unfolding cut_end cursor
        turn-trim m = turn-row ∙ at-start t d a c row same (omega arith) ∙ pick-t _ _ _ (lt-ltb a.end q.end m) ∙ ap (λ (i : ℕ). onward (split t i a.end) (λ k. c)) (slot-of q.slot)

        pub turn-raise : q.end ≤ a.end → Raisable q.counts
            → turn Add t d a c ≡ to (Continue (behind (raised_record a.ops.0 q) l q.end (union z (raises a.ops.0 q)))) (tables (raised_record a.ops.0 q ∷ l))
        unfolding raise_turn cursor
        turn-raise m u =
            let r = raised_record a.ops.0 q in
            let next : Region → Turn = λ y. to (Continue (next_of c (link (first_slot l)) q.end (crossings_of row y))) (with_record t (slot_to (suc q.slot)) y) in
            turn-row
            ∙ at-start t d a c row same (omega arith)
            ∙ pick-f _ _ _ (le-ltb a.end q.end m)
            ∙ ap next (raised_is a.ops.0 q (first_slot l) u)
            ∙ ap (λ (i : ℕ). to (Continue (next_of c (link (first_slot l)) q.end (crossings_of row (record_for r (first_slot l))))) (with_record t i (record_for r (first_slot l)))) (slot-of q.slot)
            ∙ ap (λ (u : Tables). to (Continue (next_of c (link (first_slot l)) q.end (crossings_of row (record_for r (first_slot l))))) u) (changed-here s d x b l q p h r refl)
            ∙ ap (λ (k : ℕ). to (Continue (next_of c (link (first_slot l)) q.end k)) (tables (r ∷ l))) (crossings-is q r (first_slot l) (first_slot l))
