-- The engine's ring is the ring of the tables. Where it holds a queue of the model, entry by entry, the tables with it put back are those of the state with
-- that queue (`laid-tables`); so each step on the ring is the model's, by what it does to the queue.
use Rattle.std.specs.Prelude.{◌≡◌, ℕ, zero, suc, ◌+◌, ◌-◌, ◌%◌, ◌≤◌, ◌<◌, Bool, true, false, ◌||◌, eqb, if◌then◌else◌, Option as Maybe, Some, None}
use Rattle.std.proofs.Math.Path.{refl, sym, ap, subst}
use Rattle.std.proofs.Common.{◌∙◌, arith}
use Rattle.std.proofs.Math.Option.{Option, none, some}
use mathlib.Core.List.{List, [], ◌∷◌, ◌++◌, map}
use Rattle.std.proofs.Math.ListN.{length, get_or, get_elem?, length-map}
use Rattle.std.proofs.Math.Seq.{ext_get_or}
use Rattle.base.specs.Cases.{lt, ge, cmp, holds, fails, test, pick}
use Rattle.base.specs.Tests.{true-is}
use Rattle.model.specs.Lists.{one_if, exists, count_if, In}
use Rattle.model.specs.State as state
use Rattle.model.specs.State.{State, permission, with_queue}
use Rattle.model.specs.Layout.{at_place}
use Rattle.model.specs.Outcome.{ok, ◌>>=◌}
use Rattle.model.specs.Pool.{handle_of}
use Rattle.model.specs.Updates.{push, is_permission_of, gather, push_permission, pop}
use Rattle.model.specs.Sound.{Singly}
use Rattle.sizes.specs.Limits.{most_updates}
use Rattle.laws.specs.Gather.{gather-other}
use Rattle.laws.specs.Capas.Live.{handle-same}
use Rattle.laws.specs.Keep.Ring.{eqb-turned}
use Rattle.laws.specs.Tree.Steps.{domain-at}
use Rattle.tables.specs.Tables.{Tables, no_update, update_at, mark_at, with_places, with_ring, with_marks}
use Rattle.refusals.specs.Refusals.{ring_full}
use Rattle.answers.specs.Answers.{Effect}
use Rattle.ring.specs.declared.Entry.{Entry}
use Rattle.ring.specs.declared.Ring.{Ring}
use Rattle.ring.specs.Ring.{PushOut, no_entry, push_of, pop_of}
use Rattle.ring_search.specs.Queueing.{names_of, queue_of}
use Rattle.stored_ring.specs.Stored.{ring_of, with_ring_of}
use Rattle.ring_search.specs.Search.{any_names, gather_first}
use Rattle.update.specs.Laid.{Laid, push-laid, full-laid, queue-laid, new-laid, empty-laid, pop-laid}
use Rattle.domain.specs.Activate.{or_refused, notify, cleanup}
use Rattle.decoded.specs.Rows.{map-up-length, get_or-up}
use Rattle.decoded.specs.Sizes.{and_both}
use Rattle.decoded.specs.Tables.{pool_of, update_for, mark_for, place_for, ring_for, marks_for, tables_of}
use Rattle.refine.specs.Agrees.{Agrees}
use Rattle.decoded.specs.Slots.Domains.{head_read}
use Rattle.decoded.specs.Queue.Ring.{update-read, mark-read, push-is, push-refused, pop-none, pop-is}

-- a queued update, or none, as a place of the ring has it
abbrev pub entry_for : Option state.Update → Entry
entry_for o = record { update = update_for o; marks = mark_for o }

abbrev pub queued_for : state.Update → Entry
queued_for u = entry_for (some u)

-- what a pop answers for what left the queue
abbrev pub item_for : Option state.Update → Maybe Entry
item_for none = None
item_for (some u) = Some (queued_for u)

-- what a push on the ring of t answers and leaves
abbrev pub pushed : Tables → PushOut → Effect
pushed t p = record { answer = or_refused ring_full p.ok; tables = with_ring_of t p.ring }

-- ---- entries of the queue

map-end : (l : List state.Update) (u : state.Update) → map queued_for (l ++ (u ∷ [])) ≡ map queued_for l ++ (queued_for u ∷ [])
map-end [] u = refl
map-end (x ∷ l) u = ap (λ (y : List Entry). queued_for x ∷ y) (map-end l u)

get_or-items : (l : List state.Update) (i : ℕ) → entry_for (get_elem? l i) ≡ get_or (map queued_for l) i no_entry
get_or-items [] i = refl
get_or-items (u ∷ l) zero = refl
get_or-items (u ∷ l) (suc i) = get_or-items l i

names-is : (h : state.Handle) (u : state.Update) → names_of (update_for (some u)) h.slot h.generation ≡ is_permission_of h u
unfolding names_of
names-is h (permission k c m) = rw (eqb-turned k.slot h.slot, eqb-turned k.generation h.generation) (sym (and_both (eqb h.slot k.slot) (eqb h.generation k.generation)))
names-is h (state.cleanup a b) = refl

or-pick : (a b : Bool) → pick a true b ≡ a || b
or-pick true b = refl
or-pick false b = refl

any-is : (h : state.Handle) (l : List state.Update) → any_names h.slot h.generation (map queued_for l) ≡ exists (is_permission_of h) l
any-is h [] = refl
any-is h (u ∷ l) = rw (names-is h u, any-is h l) (or-pick (is_permission_of h u) (exists (is_permission_of h) l))

-- where no update names h, nothing is gathered; where one does, it is the only one
gather_none : (h : state.Handle) (m : ℕ) (l : List state.Update) → count_if (is_permission_of h) l ≡ 0 → map (gather h m) l ≡ l
gather_none h m [] e = refl
gather_none h m (u ∷ l) e = elim (test (is_permission_of h u)) [
  | holds t ↦ absurd (omega (arith, ap one_if t))
  | fails t ↦ rw (gather-other h m u t, gather_none h m l (omega arith))
]

gather-first : (h : state.Handle) (m : ℕ) (l : List state.Update) → Singly l → gather_first h.slot h.generation m (map queued_for l) ≡ map queued_for (map (gather h m) l)
gather-first h m [] s = refl
gather-first h m (permission k c n ∷ l) s = elim (test (is_permission_of h (permission k c n))) [
  | holds t ↦
      let e = handle-same h k (true-is t) in
      let rest = gather_none h m l (rw e s.0) in
      rw (names-is h (permission k c n) ∙ t, t, rest)
  | fails t ↦ rw (names-is h (permission k c n) ∙ t, t, gather-first h m l s.1)
]
gather-first h m (state.cleanup a b ∷ l) s = rw (names-is h (state.cleanup a b)) (ap (λ (x : List Entry). queued_for (state.cleanup a b) ∷ x) (gather-first h m l s))

-- ---- the ring of a state's tables

module _ (s : State) (high : s.sizes.updates ≤ most_updates) where
  -- tables whose ring holds a queue are those of the state with that queue
  laid-tables : (q : state.Queue) (r : Ring) → Laid (with_ring_of (tables_of s) r) q.read_place (map queued_for q.items) → with_ring_of (tables_of s) r ≡ tables_of (with_queue q s)
  unfolding with_ring_of tables_of with_places with_marks with_ring ring_for marks_for
  laid-tables q r l =
      let n = s.sizes.updates in
      let at : (k : ℕ) → entry_for (at_place n q k) ≡ get_or (map queued_for q.items) ((k + (n + 1) - q.read_place) % (n + 1)) no_entry = λ k. get_or-items q.items ((k + (n + 1) - q.read_place) % (n + 1)) in
      let long = map-up-length (place_for n q) (n + 1) in
      let long-marks = map-up-length (λ k. mark_for (at_place n q k)) (n + 1) in
      let us = ext_get_or no_update (with_ring_of (tables_of s) r).ring (ring_for n q) (l.long ∙ sym long) (λ k h.
      let b : k < n + 1 = omega (arith, l.long) in
      l.place k b ∙ sym (ap (λ (e : Entry). e.update) (at k)) ∙ sym (get_or-up (place_for n q) (n + 1) k no_update b)) in
      let ms = ext_get_or 0 (with_ring_of (tables_of s) r).marks (marks_for n q) (l.long-marks ∙ sym long-marks) (λ k h.
      let b : k < n + 1 = omega (arith, l.long-marks) in
      l.mark k b ∙ sym (ap (λ (e : Entry). e.marks) (at k)) ∙ sym (get_or-up (λ i. mark_for (at_place n q i)) (n + 1) k 0 b)) in
      let w : r.write ≡ (q.read_place + length q.items) % (n + 1) = l.write ∙ ap (λ (x : ℕ). (q.read_place + x) % (n + 1)) (length-map q.items queued_for) in
      λ i. with_places (with_marks (with_ring (tables_of s) (us i)) (ms i)) (l.read i) (w i)

  module _ (hf : s.queue.read_place < s.sizes.updates + 1) (fits : length s.queue.items < s.sizes.updates + 1) where
    pub ring_laid : Laid (tables_of s) s.queue.read_place (map queued_for s.queue.items)
    unfolding tables_of update_at mark_at ring_for marks_for
    ring_laid =
        let n = s.sizes.updates in
        let l = s.queue.items in
        let m = length-map l queued_for in
        let at : (k : ℕ) → entry_for (at_place n s.queue k) ≡ get_or (map queued_for l) ((k + (n + 1) - s.queue.read_place) % (n + 1)) no_entry = λ k. get_or-items l ((k + (n + 1) - s.queue.read_place) % (n + 1)) in
        record {
          high = omega arith;
          long = map-up-length (place_for n s.queue) (n + 1);
          long-marks = map-up-length (λ k. mark_for (at_place n s.queue k)) (n + 1);
          inside = hf;
          few = omega arith;
          read = refl;
          write = ap (λ (k : ℕ). (s.queue.read_place + k) % (n + 1)) (sym m);
          place = λ k h. update-read s hf fits k h ∙ ap (λ (e : Entry). e.update) (at k);
          mark = λ k h. mark-read s hf fits k h ∙ ap (λ (e : Entry). e.marks) (at k);
        }

    -- ---- an update joins

    pub push-refines : (u : state.Update) → Agrees (pushed (tables_of s) (push_of (ring_of (tables_of s)) (queued_for u))) (push u s >>= λ t. ok (0, t))
    unfolding ◌>>=◌ tables_of
    push-refines u =
        let n = s.sizes.updates in
        let l = s.queue.items in
        let m = length-map l queued_for in
        elim (cmp (length l) n) [
          | lt h ↦
              let (joins, laid) = push-laid (tables_of s) s.queue.read_place (map queued_for l) ring_laid (queued_for u) (rw m h) in
              let r = (push_of (ring_of (tables_of s)) (queued_for u)).ring in
              let after = laid-tables (record { read_place = s.queue.read_place; items = l ++ (u ∷ []) }) r (subst (Laid (with_ring_of (tables_of s) r) s.queue.read_place) (sym (map-end l u)) laid) in
              rw (joins, push-is s hf fits u h) (refl, after)
          | ge h ↦
              let (full, same) = full-laid (tables_of s) s.queue.read_place (map queued_for l) ring_laid (queued_for u) (omega arith) in
              rw (full, push-refused s hf fits u h) refl
        ]

    pub cleanup-refines : (a b : ℕ) → Agrees (cleanup a b (tables_of s)) (push (state.cleanup a b) s >>= λ t. ok (0, t))
    unfolding cleanup
    cleanup-refines a b = push-refines (state.cleanup a b)

    -- ---- "A change queues the domain with its core map unless it is queued already", and then its marks are gathered

    queue-refines : (h : state.Handle) (c m : ℕ) → Singly s.queue.items
        → Agrees (pushed (tables_of s) (queue_of (ring_of (tables_of s)) h.slot h.generation c m))
        ((if exists (is_permission_of h) s.queue.items then ok (with_queue (record { read_place = s.queue.read_place; items = map (gather h m) s.queue.items }) s) else push (permission h c m) s) >>= λ t. ok (0, t))
    unfolding ◌>>=◌
    queue-refines h c m singly =
        let l = s.queue.items in
        elim (test (exists (is_permission_of h) l)) [
          | holds t ↦
              let (joins, laid) = queue-laid (tables_of s) s.queue.read_place (map queued_for l) ring_laid h.slot h.generation c m (any-is h l ∙ t) in
              let r = (queue_of (ring_of (tables_of s)) h.slot h.generation c m).ring in
              let after = laid-tables (record { read_place = s.queue.read_place; items = map (gather h m) l }) r (subst (Laid (with_ring_of (tables_of s) r) s.queue.read_place) (gather-first h m l singly) laid) in
              rw (joins, t) (refl, after)
          | fails t ↦ rw (new-laid (tables_of s) s.queue.read_place (map queued_for l) ring_laid h.slot h.generation c m (any-is h l ∙ t), t) (push-refines (permission h c m))
        ]

    pub notify-refines : (d m : ℕ) (x : state.Domain) → length s.domains ≡ s.sizes.domains → In s.domains d x → Singly s.queue.items → Agrees (notify d m (tables_of s)) (push_permission d m s >>= λ t. ok (0, t))
    unfolding notify push_permission tables_of pool_of
    notify-refines d m x long at singly = rw (head_read s long d x at, domain-at s d x at) (queue-refines (handle_of s.domain_pool d) x.cores m singly)

    -- ---- the oldest leaves

    abbrev Pops : Option state.Update × State → Type 0
    Pops y = ((pop_of (ring_of (tables_of s))).item ≡ item_for y.0) × (with_ring_of (tables_of s) (pop_of (ring_of (tables_of s))).ring ≡ tables_of y.1)

    pop-of : (l : List state.Update) → s.queue.items ≡ l → Pops (pop s)
    unfolding tables_of
    pop-of [] e = subst Pops (sym (pop-none s hf fits e)) (empty-laid (tables_of s) s.queue.read_place (subst (λ x. Laid (tables_of s) s.queue.read_place (map queued_for x)) e ring_laid))
    pop-of (u ∷ us) e =
        let (item, laid) = pop-laid (tables_of s) s.queue.read_place (queued_for u) (map queued_for us) (subst (λ x. Laid (tables_of s) s.queue.read_place (map queued_for x)) e ring_laid) in
        subst Pops (sym (pop-is s hf fits u us e)) (item, laid-tables (record { read_place = (s.queue.read_place + 1) % (s.sizes.updates + 1); items = us }) (pop_of (ring_of (tables_of s))).ring laid)

    pub pop-ring-refines : ((pop_of (ring_of (tables_of s))).item ≡ item_for (pop s).0) × (with_ring_of (tables_of s) (pop_of (ring_of (tables_of s))).ring ≡ tables_of (pop s).1)
    pop-ring-refines = pop-of s.queue.items refl
