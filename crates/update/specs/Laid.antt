-- The ring of the tables as a queue, and what each step on the tables leaves of it.
use Rattle.std.specs.Prelude.{ℕ, ◌+◌, ◌-◌, ◌%◌, ◌<◌, ◌≤◌, ◌≡◌, true, false, List, [], ◌∷◌, ◌++◌, length, get_or, Some, None}
use Rattle.std.proofs.Math.Path.{ap}
use Rattle.std.proofs.Common.{◌∙◌, arith}
use Rattle.std.proofs.lemmas.List.{length-map}
use Rattle.std.proofs.Math.ListN.{get_or-map, get_or-eq_default}
use Rattle.base.specs.Cases.{cmp, lt, ge}
use Rattle.tables.specs.Tables.{Tables, no_update, with_ring, with_marks, with_places}
use Rattle.ring.specs.declared.Entry.{Entry}
use Rattle.ring.specs.declared.Ring.{Ring}
use Rattle.ring.specs.Ring.{PushOut, PopOut, cap, no_entry, push_of, pop_of, permission_of}
use Rattle.ring_search.specs.Queueing.{queue_of}
use Rattle.stored_ring.specs.Fitted.{fitted, length-fitted, get_or-fitted, fitted-back}
use Rattle.stored_ring.specs.Stored.{entries, updates_of, marks_of, ring_of, with_ring_of, length-entries, get_or-entries, entries-updates, entries-marks}
use Rattle.ring.proofs.Queue.{Queues, push-joins, push-full, pop-empty, pop-takes}
use Rattle.ring_search.specs.Search.{any_names, gather_first, queue-new, queue-gathers}
use Rattle.ring.specs.Sizes.{push-size, pop-size}
use Rattle.ring_search.specs.Sizes.{queue-size}

-- the tables' places as the layout has them: place k has the update and the marks of the entry that is as far on in the queue as k is from the first place
pub record Laid (s : Tables) (first : ℕ) (items : List Entry) : Type 0 where
  pub high : s.sizes.updates + 1 ≤ cap
  pub long : length s.ring ≡ s.sizes.updates + 1
  pub long-marks : length s.marks ≡ s.sizes.updates + 1
  pub inside : first < s.sizes.updates + 1
  pub few : length items < s.sizes.updates + 1
  pub read : s.read ≡ first
  pub write : s.write ≡ (first + length items) % (s.sizes.updates + 1)
  pub place : (k : ℕ) → k < s.sizes.updates + 1 → get_or s.ring k no_update ≡ (get_or items ((k + (s.sizes.updates + 1) - first) % (s.sizes.updates + 1)) no_entry).update
  pub mark : (k : ℕ) → k < s.sizes.updates + 1 → get_or s.marks k 0 ≡ (get_or items ((k + (s.sizes.updates + 1) - first) % (s.sizes.updates + 1)) no_entry).marks

-- past the places of the tables a fitted ring is nothing
fitted-past : (n m : ℕ) (ps : List Entry) (k : ℕ) → length ps ≡ m → m ≤ k → get_or (fitted n ps) k no_entry ≡ no_entry
fitted-past n m ps k e h =
    elim (cmp k n) [
      | lt a ↦ get_or-fitted n ps k a ∙ get_or-eq_default ps no_entry {n = k} (omega arith)
      | ge a ↦ get_or-eq_default (fitted n ps) no_entry {n = k} (omega (arith, length-fitted n ps))
    ]

pub laid-queues : (s : Tables) (first : ℕ) (items : List Entry) → Laid s first items → Queues (ring_of s) first items
unfolding ring_of
laid-queues s first items l =
    let es = entries s.ring s.marks in
    record {
      inside = l.inside;
      high = l.high;
      long = length-fitted cap es;
      few = l.few;
      read = l.read;
      write = l.write;
      place = λ k h.
          get_or-fitted cap es k (omega (arith, l.high)) ∙ get_or-entries s.ring s.marks k (omega (arith, l.long, l.long-marks))
          ∙ (λ i. record { update = l.place k h i; marks = l.mark k h i });
      past = λ k h. fitted-past cap (s.sizes.updates + 1) es k (length-entries s.ring s.marks ∙ l.long) h;
    }

-- and back: a queue that is stored is laid so
pub queues-laid : (s : Tables) (r : Ring) (first : ℕ) (items : List Entry) → length s.ring ≡ s.sizes.updates + 1 → r.size ≡ s.sizes.updates + 1
    → Queues r first items → Laid (with_ring_of s r) first items
unfolding with_ring_of with_ring with_marks with_places
queues-laid s r first items e z q =
    let ps = fitted (length s.ring) r.places in
    let at : (k : ℕ) → k < s.sizes.updates + 1 → get_or ps k no_entry ≡ get_or items ((k + (s.sizes.updates + 1) - first) % (s.sizes.updates + 1)) no_entry =
    λ k h. get_or-fitted (length s.ring) r.places k (omega arith) ∙ rw (← z) (q.place k (omega arith)) in
    record {
      high = rw (← z) q.high;
      long = length-map ps (λ (x : Entry). x.update) ∙ length-fitted (length s.ring) r.places ∙ e;
      long-marks = length-map ps (λ (x : Entry). x.marks) ∙ length-fitted (length s.ring) r.places ∙ e;
      inside = rw (← z) q.inside;
      few = rw (← z) q.few;
      read = q.read;
      write = rw (← z) q.write;
      place = λ k h. get_or-map (λ (x : Entry). x.update) ps k no_entry ∙ ap (λ (x : Entry). x.update) (at k h);
      mark = λ k h. get_or-map (λ (x : Entry). x.marks) ps k no_entry ∙ ap (λ (x : Entry). x.marks) (at k h);
    }

-- a ring that is stored as it was loaded changes nothing
pub ring-same : (s : Tables) → length s.ring ≤ cap → length s.marks ≡ length s.ring → with_ring_of s (ring_of s) ≡ s
unfolding ring_of with_ring_of with_ring with_marks with_places
ring-same s h m =
    let e = fitted-back (length s.ring) cap (entries s.ring s.marks) (length-entries s.ring s.marks) h in
    let us = ap updates_of e ∙ entries-updates s.ring s.marks in
    let ms = ap marks_of e ∙ entries-marks s.ring s.marks m in
    λ i. with_marks (with_ring s (us i)) (ms i)

-- ---- the steps on the tables, as steps of the queue

module _ (s : Tables) (first : ℕ) (items : List Entry) (l : Laid s first items) where
  same : with_ring_of s (ring_of s) ≡ s
  same = ring-same s (omega (arith, l.long, l.high)) (omega (arith, l.long, l.long-marks))

  -- an entry joins the end
  pub push-laid : (u : Entry) → length items < s.sizes.updates
      → ((push_of (ring_of s) u).ok ≡ true) × Laid (with_ring_of s (push_of (ring_of s) u).ring) first (items ++ (u ∷ []))
  unfolding ring_of
  push-laid u h =
      let (ok, q) = push-joins (ring_of s) first items (laid-queues s first items l) u (omega arith) in
      (ok, queues-laid s (push_of (ring_of s) u).ring first (items ++ (u ∷ [])) l.long (push-size (ring_of s) u) q)

  -- 14 where the ring holds as many as it can
  pub full-laid : (u : Entry) → length items ≡ s.sizes.updates → ((push_of (ring_of s) u).ok ≡ false) × (with_ring_of s (push_of (ring_of s) u).ring ≡ s)
  unfolding ring_of
  full-laid u h =
      let e = push-full (ring_of s) first items (laid-queues s first items l) u (omega arith) in
      (ap (λ (o : PushOut). o.ok) e, ap (λ (o : PushOut). with_ring_of s o.ring) e ∙ same)

  -- a domain that is queued already keeps its place, and its marks are gathered
  pub queue-laid : (d g c m : ℕ) → any_names d g items ≡ true
      → ((queue_of (ring_of s) d g c m).ok ≡ true) × Laid (with_ring_of s (queue_of (ring_of s) d g c m).ring) first (gather_first d g m items)
  unfolding ring_of
  queue-laid d g c m h =
      let (ok, q) = queue-gathers (ring_of s) first items (laid-queues s first items l) d g c m h in
      (ok, queues-laid s (queue_of (ring_of s) d g c m).ring first (gather_first d g m items) l.long (queue-size (ring_of s) d g c m) q)

  pub new-laid : (d g c m : ℕ) → any_names d g items ≡ false → queue_of (ring_of s) d g c m ≡ push_of (ring_of s) (permission_of d g c m)
  new-laid d g c m h = queue-new (ring_of s) first items (laid-queues s first items l) d g c m h

-- "Pop of an empty ring answers none."
pub empty-laid : (s : Tables) (first : ℕ) → Laid s first [] → ((pop_of (ring_of s)).item ≡ None) × (with_ring_of s (pop_of (ring_of s)).ring ≡ s)
empty-laid s first l =
    let e = pop-empty (ring_of s) first (laid-queues s first [] l) in
    (ap (λ (o : PopOut). o.item) e, ap (λ (o : PopOut). with_ring_of s o.ring) e ∙ same s first [] l)

-- the oldest entry leaves
pub pop-laid : (s : Tables) (first : ℕ) (u : Entry) (us : List Entry) → Laid s first (u ∷ us)
    → ((pop_of (ring_of s)).item ≡ Some u) × Laid (with_ring_of s (pop_of (ring_of s)).ring) ((first + 1) % (s.sizes.updates + 1)) us
unfolding ring_of
pop-laid s first u us l =
    let (item, q) = pop-takes (ring_of s) first u us (laid-queues s first (u ∷ us) l) in
    (item, queues-laid s (pop_of (ring_of s)).ring ((first + 1) % (s.sizes.updates + 1)) us l.long (pop-size (ring_of s)) q)
