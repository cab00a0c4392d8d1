-- The turns of the code's loss, by where the range starts and ends about the record at hand. b is done, the rest is to come; the range starts at st.
-- Each law says what the turn does to the tables of the state in the middle of the walk.
use Rattle.std.specs.Prelude.{◌≡◌, Bool, true, false, List, [], ◌∷◌, ◌++◌, eqb, ltb, if◌then◌else◌}
use Rattle.std.proofs.Math.Path.{refl, sym, ap}
use Rattle.std.proofs.Common.{◌∙◌, arith, lt-ltb, le-ltb, ne_eqb, le-leb, Continue}
use Prim.Native.Nat.{ℕ, suc, ◌≤◌, ◌<◌}
use Rattle.std.proofs.lemmas.Bool.{lt-leb}
use Rattle.base.specs.Cases.{pick, pick-t, pick-f}
use Rattle.rights.specs.Rights.{union}
use Rattle.model.specs.State.{State, Record, Pool, Domain}
use Rattle.model.specs.Layout.{link}
use Rattle.model.specs.Tracker.{lower, no_counts, crossings}
use Rattle.laws.specs.Words.SameTrackers.{first_slot}
use Rattle.tables.specs.declared.Region.{Region}
use Rattle.tables.specs.Tables.{Tables, no_record, record_at, with_record}
use Rattle.region.specs.declared.AccessRights.{AccessRights}
use Rattle.walk_cursors.specs.declared.Cursor.{Cursor}
use Rattle.region.specs.declared.Way.TheVariants.{Remove}
use Rattle.tables.specs.Links.{slot_to}
use Rattle.tracker_records.specs.Links.{with_next, split, freed_record}
use Rattle.counts.specs.Counts.{crossings_of}
use Rattle.walk_cursors.specs.Cursors.{next_of, dropped_of}
use Rattle.region.specs.Turns.{Turn, to, over, onward, cut_start, cut_end}
use Rattle.loss_turns.specs.Turns.{lower_turn}
use Rattle.tracker.specs.Walks.{remove_at, remove_turn, turn}
use Rattle.decoded.specs.Tables.{record_for, tables_of}
use Rattle.refine.specs.Tracker.Linked.{slot-of, last_link}
use Rattle.refine.specs.Tracker.RecordSteps.{tracked}
use Rattle.refine.specs.Tracker.LossSteps.{lowered_record, lowers}
use Rattle.refine.specs.Tracker.TrackerCounts.{lowered_is, crossings-is, drops-is}
use Rattle.refine.specs.Tracker.Walking.{cursor, Fits, row_here, changed-here}
use Rattle.refine.specs.Tracker.Walks.{behind}

-- the cases, for a record with its row
module _ (t : Tables) (d : ℕ) (a : AccessRights) (c : Cursor) (q : Region) where
  at-beyond : a.end ≤ q.start → remove_at t d a c q ≡ over c t
  unfolding remove_at
  at-beyond h = pick-t _ _ _ (le-leb a.end q.start h)

  at-pass : q.start < a.end → q.end ≤ c.start → remove_at t d a c q ≡ to (Continue (next_of c q.next c.start 0)) t
  unfolding remove_at
  at-pass h k = pick-f _ _ _ (lt-leb a.end q.start h) ∙ pick-t _ _ _ (le-leb q.end c.start k)

  at_cut : q.start < a.end → q.start < c.start → c.start < q.end → remove_at t d a c q ≡ cut_start t c
  unfolding remove_at
  at_cut h k m = pick-f _ _ _ (lt-leb a.end q.start h) ∙ pick-f _ _ _ (lt-leb q.end c.start m) ∙ pick-t _ _ _ (lt-ltb q.start c.start k)

  at_first : q.start < a.end → c.start ≤ q.start → c.start < q.end → remove_at t d a c q ≡ pick (ltb a.end q.end) (cut_end t c a.end) (lower_turn t d a c q)
  unfolding remove_at
  at_first h k m = pick-f _ _ _ (lt-leb a.end q.start h) ∙ pick-f _ _ _ (lt-leb q.end c.start m) ∙ pick-f _ _ _ (le-ltb q.start c.start k)

module _ (s : State) (d : ℕ) (x : Domain) (a : AccessRights) (st z : ℕ) (b : List Record) (p : Pool) where
  abbrev tables : List Record → Tables
  tables l = tables_of (tracked s d x (b ++ l) p)

  -- no record is left
  pub turn_last : turn Remove (tables []) d a (cursor b [] st z) ≡ over (cursor b [] st z) (tables [])
  unfolding remove_turn cursor
  turn_last = refl

  module _ (q : Record) (l : List Record) (h : Fits s d x (b ++ q ∷ l) p) where
    abbrev t : Tables
    t = tables (q ∷ l)

    abbrev c : Cursor
    c = cursor b (q ∷ l) st z

    abbrev row : Region
    row = record_for q (first_slot l)

    turn-row : turn Remove t d a c ≡ remove_at t d a c row
    unfolding remove_turn cursor
    turn-row = rw (ne_eqb (suc q.slot) 0 (λ k. omega arith)) (ap (λ (i : ℕ). remove_at t d a c (record_at t i)) (slot-of q.slot) ∙ ap (remove_at t d a c) (row_here s d x b l q p h))

    -- q lies beyond the range
    pub turn-beyond : a.end ≤ q.start → turn Remove t d a c ≡ over c t
    turn-beyond k = turn-row ∙ at-beyond t d a c row k

    module _ (near : q.start < a.end) where
      -- q lies before the range
      pub turn-pass : q.end ≤ st → turn Remove t d a c ≡ to (Continue (behind q l st (union z 0))) t
      unfolding cursor
      turn-pass m = turn-row ∙ at-pass t d a c row near m

      -- the range starts inside q
      pub turn-cut : q.start < st → st < q.end → turn Remove t d a c ≡ onward (split t q.slot st) (λ k. record { prev = suc q.slot; at = k; start = st; marks = z })
      unfolding cut_start cursor
      turn-cut k m = turn-row ∙ at_cut t d a c row near k m ∙ ap (λ (i : ℕ). onward (split t i st) (λ k. record { prev = suc q.slot; at = k; start = st; marks = z })) (slot-of q.slot)

      module _ (first : st ≤ q.start) (some-of-it : q.start < q.end) where
        -- the range ends inside q
        pub turn-trim : a.end < q.end → turn Remove t d a c ≡ onward (split t q.slot a.end) (λ k. c)
        unfolding cut_end cursor
        turn-trim m = turn-row ∙ at_first t d a c row near first (omega arith) ∙ pick-t _ _ _ (lt-ltb a.end q.end m) ∙ ap (λ (i : ℕ). onward (split t i a.end) (λ k. c)) (slot-of q.slot)

        -- the range holds q
        module _ (m : q.end ≤ a.end) where
          abbrev r : Record
          r = lowered_record a.ops.0 q

          -- the tables where q is not in the list any more, but still in its slot
          abbrev without : Tables
          without = with_next t d (last_link b) (link (first_slot l))

          -- the row that is left
          next : Region → Turn
          next y =
              pick (eqb y.ref_count 0) (onward (freed_record without (slot_to (suc q.slot))) (λ u. dropped_of c (link (first_slot l)) (crossings_of row no_record)))
              (to (Continue (next_of c (link (first_slot l)) st (crossings_of row y))) (with_record t (slot_to (suc q.slot)) y))

          turn-lower : turn Remove t d a c ≡ next (record_for r (first_slot l))
          unfolding lower_turn cursor next
          turn-lower = turn-row ∙ at_first t d a c row near first (omega arith) ∙ pick-f _ _ _ (le-ltb a.end q.end m) ∙ ap next (lowered_is a.ops.0 q (first_slot l))

          -- the marks, by whether counts are left
          marks_of : Bool → ℕ
          marks_of v = crossings q.counts (if v then no_counts else r.counts)

          keeps-is : eqb (lower a.ops.0 q.counts).reach 0 ≡ false → crossings_of row (record_for r (first_slot l)) ≡ lowers a.ops.0 q
          unfolding marks_of
          keeps-is e = crossings-is q r (first_slot l) (first_slot l) ∙ sym (ap marks_of e)

          leaves-is : eqb (lower a.ops.0 q.counts).reach 0 ≡ true → crossings_of row no_record ≡ lowers a.ops.0 q
          unfolding marks_of
          leaves-is e = drops-is q (first_slot l) ∙ sym (ap marks_of e)

          pub turn-keep : eqb (lower a.ops.0 q.counts).reach 0 ≡ false
              → turn Remove t d a c ≡ to (Continue (behind (lowered_record a.ops.0 q) l st (union z (lowers a.ops.0 q)))) (tables (lowered_record a.ops.0 q ∷ l))
          unfolding cursor next
          turn-keep e =
              let go : ℕ → Cursor = λ k. next_of c (link (first_slot l)) st k in
              let y = record_for r (first_slot l) in
              turn-lower
              ∙ pick-f _ _ _ e
              ∙ ap (λ (k : ℕ). to (Continue (go k)) (with_record t (slot_to (suc q.slot)) y)) (keeps-is e)
              ∙ ap (λ (i : ℕ). to (Continue (go (lowers a.ops.0 q))) (with_record t i y)) (slot-of q.slot)
              ∙ ap (to (Continue (go (lowers a.ops.0 q)))) (changed-here s d x b l q p h r refl)

          pub turn-drop : eqb (lower a.ops.0 q.counts).reach 0 ≡ true
              → turn Remove t d a c ≡ onward (freed_record (with_next t d (last_link b) (link (first_slot l))) q.slot) (λ v. cursor b l st (union z (lowers a.ops.0 q)))
          unfolding cursor next
          turn-drop e =
              turn-lower
              ∙ pick-t _ _ _ e
              ∙ ap (λ (k : ℕ). onward (freed_record without (slot_to (suc q.slot))) (λ v. dropped_of c (link (first_slot l)) k)) (leaves-is e)
              ∙ ap (λ (i : ℕ). onward (freed_record without i) (λ v. dropped_of c (link (first_slot l)) (lowers a.ops.0 q))) (slot-of q.slot)
