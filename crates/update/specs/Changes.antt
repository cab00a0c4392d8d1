-- What a step can change of the ring: one place, and the read or the write place. Only that is stored.
use Rattle.std.specs.Prelude.{ℕ, ◌≤◌, ◌≡◌, Bool, true, false, List, length, set, Some, None}
use Rattle.std.proofs.Common.{sym, ap, ◌∙◌, arith, lt-ltb, set-set}
use Rattle.std.proofs.Math.ListN.{get_or}
use Rattle.std.proofs.Math.Seq.{set_out}
use Rattle.std.proofs.lemmas.List.{set-get_or}
use Rattle.base.specs.Cases.{pick, cmp, lt, ge, test, holds, fails}
use Rattle.tables.specs.Tables.{with_ring, with_marks, with_places, with_update, with_mark}
use Rattle.tables.specs.View.{view, Sized, Left}
use Rattle.ring.specs.declared.Entry.{Entry}
use Rattle.ring.specs.declared.Ring.{Ring}
use Rattle.ring.specs.Ring.{PushOut, PopOut, cap, no_entry, room_b, put_in, push_of, permission_of, some_b, take_out, pop_of}
use Rattle.ring_search.specs.Queueing.{place_of, gathered, found_b, queue_of}
use Rattle.ring_search.specs.Search.{place-missed}
use Rattle.stored_ring.specs.Fitted.{fitted, length-fitted}
use Rattle.stored_ring.specs.Stored.{entries, updates_of, marks_of, ring_of, with_ring_of, place_in, updates_set, marks-set, ring-few, marks-many}

-- q has the places of r but for place i
abbrev pub ButAt : ℕ → Ring → Ring → Type 0
ButAt i r q = q.places ≡ set r.places i (get_or q.places i no_entry)

-- ---- each step

-- a place is set to what it then is; past the places nothing is set
set-got : (ps : List Entry) (i : ℕ) (u : Entry) → set ps i u ≡ set ps i (get_or (set ps i u) i no_entry)
set-got ps i u = sym (set-get_or (set ps i u) i no_entry) ∙ set-set ps i u (get_or (set ps i u) i no_entry)

either : {A : Type 0} (ring : A → Ring) (b : Bool) (x y : A) (i : ℕ) (r : Ring) → ButAt i r (ring x) → ButAt i r (ring y) → ButAt i r (ring (pick b x y))
either ring true x y i r h k = h
either ring false x y i r h k = k

abbrev left : PushOut → Ring
left o = o.ring

module _ (r : Ring) where
  pub push_at : (u : Entry) → ButAt r.write r (push_of r u).ring
  unfolding push_of
  push_at u = either left (room_b r) (record { ok = true; ring = put_in r u }) (record { ok = false; ring = r }) r.write r (set-got r.places r.write u) (sym (set-get_or r.places r.write no_entry))

  -- where the domain is not found, the place is the write place
  pub queue-at : (d g c m : ℕ) → ButAt (place_of r d g) r (queue_of r d g c m).ring
  unfolding queue_of
  queue-at d g c m =
      let i = place_of r d g in
      elim (test (found_b r i)) [
        | holds t ↦ rw t (set-got r.places i (gathered (get_or r.places i no_entry) m))
        | fails t ↦ rw t (rw (place-missed r d g t) (push_at (permission_of d g c m)))
      ]

  pub pop-at : ButAt r.read r (pop_of r).ring
  unfolding pop_of
  pop-at =
      either (λ (o : PopOut). o.ring) (some_b r) (record { item = Some (get_or r.places r.read no_entry); ring = take_out r })
      (record { item = None; ring = r }) r.read r (set-got r.places r.read no_entry) (sym (set-get_or r.places r.read no_entry))

-- ---- in the tables

-- past the largest ring nothing is set
set-place : (q : Ring) (ps : List Entry) (i : ℕ) → length ps ≤ cap → set ps i (place_in q i) ≡ set ps i (get_or q.places i no_entry)
set-place q ps i h =
    elim (cmp i cap) [
      | lt a ↦ rw (lt-ltb i cap a)
      | ge a ↦ set_out ps i (place_in q i) (omega arith) ∙ sym (set_out ps i (get_or q.places i no_entry) (omega arith))
    ]

-- q is stored whole where it has the places of the tables' ring but for the one stored
pub ring-stored : (t v : List ℕ) (r q : Ring) (i : ℕ) → Sized t → r ≡ ring_of (view t) → ButAt i r q
    → Left v (with_places (with_mark (with_update (view t) i (place_in q i).update) i (place_in q i).marks) q.read q.write) → Left v (with_ring_of (view t) q)
unfolding with_ring_of ring_of with_places with_mark with_marks with_update with_ring
ring-stored t v r q i s er h l =
    let us = (view t).ring in
    let ms = (view t).marks in
    let few = ring-few t s in
    let e = place_in q i in
    let ps = fitted cap (entries us ms) in
    let same : q.places ≡ set ps i e = h ∙ ap (λ (x : Ring). set x.places i (get_or q.places i no_entry)) er ∙ sym (set-place q ps i (omega (arith, length-fitted cap (entries us ms)))) in
    let f : updates_of (fitted (length us) q.places) ≡ set us i e.update = ap (λ (x : List Entry). updates_of (fitted (length us) x)) same ∙ updates_set us ms i e few in
    let g : marks_of (fitted (length us) q.places) ≡ set ms i e.marks = ap (λ (x : List Entry). marks_of (fitted (length us) x)) same ∙ marks-set us ms i e few (marks-many t) in
    record { seen = l.seen ∙ (λ k. with_places (with_marks (with_ring (view t) (sym f k)) (sym g k)) q.read q.write); sized = l.sized }
