-- The update ring with its marks: an update that joins the queue takes the write place, the oldest leaves the read place, and one that gathers marks stays.
use Rattle.std.specs.Prelude.{◌≡◌, refl, ◌≢◌, ℕ, zero, suc, ◌+◌, ◌-◌, ◌%◌, ◌≤◌, ◌<◌, not, eqb, ltb}
use Rattle.std.proofs.Math.Path.{sym, ap}
use Rattle.std.proofs.Common.{◌∙◌, arith, mod-eq_of_lt, mod-lt, lt-ltb, le-ltb, eq-eqb, ne_eqb}
use Rattle.std.proofs.Math.Option.{Option, none, some}
use mathlib.Core.List.{List, [], ◌∷◌, ◌++◌, map}
use Rattle.std.proofs.Math.Nat.{add-mod_right}
use Rattle.std.proofs.Math.ListN.{length, set, get_elem?, length-append}
use Rattle.std.proofs.lemmas.List.{length-map}
use Rattle.base.specs.Cases.{lt, ge, cmp}
use Rattle.base.specs.Rounds.{wrap-add, along-first, round-again, along-at, along-other, next_last, next-along}
use Rattle.model.specs.Lists.{is_empty, count_up}
use Rattle.model.specs.State as state
use Rattle.model.specs.State.{State, Queue, permission, cleanup, with_queue}
use Rattle.model.specs.Layout.{at_place}
use Rattle.model.specs.Outcome.{ok, refuse, ◌>>◌, require}
use Rattle.refusals.specs.Refusals.{ring_full}
use Rattle.model.specs.Updates.{push, gather, pop}
use Rattle.tables.specs.Tables.{no_update, update_at, mark_at, with_places, with_ring, with_marks, with_update, with_mark}
use Rattle.decoded.specs.Rows.{get_or-up, same_up, set-up}
use Rattle.decoded.specs.Tables.{update_for, place_for, mark_for, ring_for, marks_for, tables_of}

-- ---- lists

module _ {A : Type 0} where
  last-at : (l : List A) (u : A) → get_elem? (l ++ (u ∷ [])) (length l) ≡ some u
  last-at [] u = refl
  last-at (x ∷ l) u = last-at l u

  not_last : (l : List A) (u : A) (i : ℕ) → i ≢ length l → get_elem? (l ++ (u ∷ [])) i ≡ get_elem? l i
  not_last [] u zero h = absurd (h refl)
  not_last [] u (suc i) h = refl
  not_last (x ∷ l) u zero h = refl
  not_last (x ∷ l) u (suc i) h = not_last l u i (λ e. h (ap suc e))

  pub beyond : (l : List A) (i : ℕ) → length l ≤ i → get_elem? l i ≡ none
  beyond [] i h = refl
  beyond (x ∷ l) zero h = absurd (omega arith)
  beyond (x ∷ l) (suc i) h = beyond l i (omega arith)

-- each element is changed, but not what g says of it
elem-map : {A B : Type 0} (g : Option A → B) (f : A → A) → ((a : A) → g (some (f a)) ≡ g (some a)) → (l : List A) (i : ℕ) → g (get_elem? (map f l) i) ≡ g (get_elem? l i)
elem-map g f e [] i = refl
elem-map g f e (a ∷ l) zero = e a
elem-map g f e (a ∷ l) (suc i) = elem-map g f e l i

-- ---- the places of a ring for n updates

-- g is what a place has, by what is queued there: its update, or its mark
abbrev places : {A : Type 0} → (Option state.Update → A) → ℕ → Queue → List A
places g n q = map (λ k. g (at_place n q k)) (count_up 0 (n + 1))

module _ (n f : ℕ) (hf : f < n + 1) where
  abbrev queue : List state.Update → Queue
  queue l = record { read_place = f; items = l }

  -- one update of the queue is another, or is there and was not
  places-set : {A : Type 0} (g : Option state.Update → A) (l m : List state.Update) (j : ℕ) → j < n + 1 → ((i : ℕ) → i ≢ j → g (get_elem? m i) ≡ g (get_elem? l i))
      → places g n (queue m) ≡ set (places g n (queue l)) ((f + j) % (n + 1)) (g (get_elem? m j))
  places-set g l m j h o =
      sym (set-up (λ k. g (at_place n (queue l) k)) (λ k. g (at_place n (queue m) k)) (n + 1) ((f + j) % (n + 1)) (g (get_elem? m j)) (mod-lt (f + j) {m = n + 1} (omega arith))
      (ap (λ k. g (get_elem? m k)) (along-at (n + 1) f hf j h))
      (λ k ne b. o ((k + (n + 1) - f) % (n + 1)) (along-other (n + 1) f hf j k h b ne)))

  pub marks-set : (l m : List state.Update) (j : ℕ) → j < n + 1 → ((i : ℕ) → i ≢ j → mark_for (get_elem? m i) ≡ mark_for (get_elem? l i))
      → marks_for n (record { read_place = f; items = m }) ≡ set (marks_for n (record { read_place = f; items = l })) ((f + j) % (n + 1)) (mark_for (get_elem? m j))
  unfolding marks_for
  marks-set l m j h o = places-set mark_for l m j h o

  places-pushed : {A : Type 0} (g : Option state.Update → A) (l : List state.Update) (u : state.Update) → length l < n + 1
      → places g n (queue (l ++ (u ∷ []))) ≡ set (places g n (queue l)) ((f + length l) % (n + 1)) (g (some u))
  places-pushed g l u h =
      places-set g l (l ++ (u ∷ [])) (length l) h (λ i ne. ap g (not_last l u i ne))
      ∙ ap (λ o. set (places g n (queue l)) ((f + length l) % (n + 1)) (g o)) (last-at l u)

  pub ring-pushed : (l : List state.Update) (u : state.Update) → length l < n + 1
      → ring_for n (record { read_place = f; items = l ++ (u ∷ []) }) ≡ set (ring_for n (record { read_place = f; items = l })) ((f + length l) % (n + 1)) (update_for (some u))
  unfolding ring_for
  ring-pushed l u h = places-pushed update_for l u h

  pub marks-pushed : (l : List state.Update) (u : state.Update) → length l < n + 1
      → marks_for n (record { read_place = f; items = l ++ (u ∷ []) }) ≡ set (marks_for n (record { read_place = f; items = l })) ((f + length l) % (n + 1)) (mark_for (some u))
  unfolding marks_for
  marks-pushed l u h = places-pushed mark_for l u h

  places-popped : {A : Type 0} (g : Option state.Update → A) (l : List state.Update) (u : state.Update) → length (u ∷ l) < n + 1
      → places g n (record { read_place = (f + 1) % (n + 1); items = l }) ≡ set (places g n (queue (u ∷ l))) f (g none)
  places-popped g l u h =
      sym (set-up (λ k. g (at_place n (queue (u ∷ l)) k)) (λ k. g (at_place n (record { read_place = (f + 1) % (n + 1); items = l }) k)) (n + 1) f (g none) hf
      (ap g (beyond l ((f + (n + 1) - (f + 1) % (n + 1)) % (n + 1)) (omega (arith, next_last (n + 1) f hf))))
      (λ k ne b. ap (λ i. g (get_elem? (u ∷ l) i)) (sym (next-along (n + 1) f hf k b ne))))

  pub ring-popped : (l : List state.Update) (u : state.Update) → length (u ∷ l) < n + 1
      → ring_for n (record { read_place = (f + 1) % (n + 1); items = l }) ≡ set (ring_for n (record { read_place = f; items = u ∷ l })) f no_update
  unfolding ring_for
  ring-popped l u h = places-popped update_for l u h

  pub marks-popped : (l : List state.Update) (u : state.Update) → length (u ∷ l) < n + 1
      → marks_for n (record { read_place = (f + 1) % (n + 1); items = l }) ≡ set (marks_for n (record { read_place = f; items = u ∷ l })) f 0
  unfolding marks_for
  marks-popped l u h = places-popped mark_for l u h

  -- the two places meet where nothing is queued; the next write place is the read place where the ring is full
  empty-at : (l : List state.Update) → length l < n + 1 → eqb f ((f + length l) % (n + 1)) ≡ is_empty l
  empty-at [] h = eq-eqb f ((f + 0) % (n + 1)) (sym (ap (λ (x : ℕ). x % (n + 1)) (omega arith) ∙ mod-eq_of_lt hf))
  empty-at (u ∷ l) h = ne_eqb f ((f + length (u ∷ l)) % (n + 1)) (λ e. omega (arith, round-again (n + 1) f (length (u ∷ l)) hf h (sym e)))

  full_at : (l : List state.Update) → length l < n + 1 → eqb (((f + length l) % (n + 1) + 1) % (n + 1)) f ≡ not (ltb (length l) n)
  full_at l h =
      let w : ((f + length l) % (n + 1) + 1) % (n + 1) ≡ (f + (length l + 1)) % (n + 1) = wrap-add (n + 1) (f + length l) 1 (omega arith) ∙ ap (λ (x : ℕ). x % (n + 1)) (omega arith) in
      elim (cmp (length l) n) [
        | lt b ↦ ne_eqb _ f (λ e. omega (arith, round-again (n + 1) f (length l + 1) hf (omega arith) (sym w ∙ e))) ∙ sym (ap not (lt-ltb (length l) n b))
        | ge b ↦
            let z : f + (length l + 1) ≡ f + (n + 1) = omega arith in
            eq-eqb _ f (w ∙ ap (λ (x : ℕ). x % (n + 1)) z ∙ add-mod_right f (n + 1) ∙ mod-eq_of_lt hf) ∙ sym (ap not (le-ltb (length l) n b))
      ]

-- ---- the whole tables

module _ (s : State) (hf : s.queue.read_place < s.sizes.updates + 1) (fits : length s.queue.items < s.sizes.updates + 1) where
  pub update-read : (k : ℕ) → k < s.sizes.updates + 1 → update_at (tables_of s) k ≡ place_for s.sizes.updates s.queue k
  unfolding tables_of update_at ring_for
  update-read k h = get_or-up (place_for s.sizes.updates s.queue) (s.sizes.updates + 1) k no_update h

  pub mark-read : (k : ℕ) → k < s.sizes.updates + 1 → mark_at (tables_of s) k ≡ mark_for (at_place s.sizes.updates s.queue k)
  unfolding tables_of mark_at marks_for
  mark-read k h = get_or-up (λ i. mark_for (at_place s.sizes.updates s.queue i)) (s.sizes.updates + 1) k 0 h

  -- ---- the tests of the places

  pub empty-is : eqb (tables_of s).read (tables_of s).write ≡ is_empty s.queue.items
  unfolding tables_of
  empty-is = empty-at s.sizes.updates s.queue.read_place hf s.queue.items fits

  pub full_is : eqb (((tables_of s).write + 1) % (s.sizes.updates + 1)) (tables_of s).read ≡ not (ltb (length s.queue.items) s.sizes.updates)
  unfolding tables_of
  full_is = full_at s.sizes.updates s.queue.read_place hf s.queue.items fits

  -- ---- an update joins the queue

  pub push-is : (u : state.Update) → length s.queue.items < s.sizes.updates → push u s ≡ ok (with_queue (record { read_place = s.queue.read_place; items = s.queue.items ++ (u ∷ []) }) s)
  unfolding push require ◌>>◌
  push-is u h = rw (lt-ltb (length s.queue.items) s.sizes.updates h)

  pub push-refused : (u : state.Update) → s.sizes.updates ≤ length s.queue.items → push u s ≡ refuse ring_full
  unfolding push require ◌>>◌
  push-refused u h = rw (le-ltb (length s.queue.items) s.sizes.updates h)

  pub push-tables : (u : state.Update)
      → tables_of (with_queue (record { read_place = s.queue.read_place; items = s.queue.items ++ (u ∷ []) }) s)
      ≡ with_places (with_mark (with_update (tables_of s) (tables_of s).write (update_for (some u))) (tables_of s).write (mark_for (some u))) (tables_of s).read (((tables_of s).write + 1) % (s.sizes.updates + 1))
  unfolding tables_of with_places with_update with_ring with_mark with_marks
  push-tables u =
      let n = s.sizes.updates in
      let f = s.queue.read_place in
      let l = s.queue.items in
      let r = ring-pushed n f hf l u fits in
      let m = marks-pushed n f hf l u fits in
      let e : f + length (l ++ (u ∷ [])) ≡ f + length l + 1 = omega (arith, length-append l (u ∷ [])) in
      let w : (f + length (l ++ (u ∷ []))) % (n + 1) ≡ ((f + length l) % (n + 1) + 1) % (n + 1) = ap (λ (x : ℕ). x % (n + 1)) e ∙ sym (wrap-add (n + 1) (f + length l) 1 (omega arith)) in
      λ i. with_places (with_marks (with_ring (tables_of s) (r i)) (m i)) f (w i)

  -- ---- updates that stay gather marks

  -- each is changed, but for its marks it is the same
  pub marked-tables : (g : state.Update → state.Update) → ((u : state.Update) → update_for (some (g u)) ≡ update_for (some u))
      → tables_of (with_queue (record { read_place = s.queue.read_place; items = map g s.queue.items }) s)
      ≡ with_marks (tables_of s) (marks_for s.sizes.updates (record { read_place = s.queue.read_place; items = map g s.queue.items }))
  unfolding tables_of with_places with_ring with_marks ring_for
  marked-tables g e =
      let n = s.sizes.updates in
      let f = s.queue.read_place in
      let l = s.queue.items in
      let q : Queue = record { read_place = f; items = map g l } in
      let r = same_up (place_for n q) (place_for n s.queue) (n + 1) (λ k b. elem-map update_for g e l ((k + (n + 1) - f) % (n + 1))) in
      let w : (f + length (map g l)) % (n + 1) ≡ (f + length l) % (n + 1) = ap (λ (x : ℕ). (f + x) % (n + 1)) (length-map l g) in
      λ i. with_places (with_marks (with_ring (tables_of s) (r i)) (marks_for n q)) f (w i)

  pub gather-tables : (h : state.Handle) (m : ℕ)
      → tables_of (with_queue (record { read_place = s.queue.read_place; items = map (gather h m) s.queue.items }) s)
      ≡ with_marks (tables_of s) (marks_for s.sizes.updates (record { read_place = s.queue.read_place; items = map (gather h m) s.queue.items }))
  gather-tables h m = marked-tables (gather h m) same
    where
      same : (u : state.Update) → update_for (some (gather h m u)) ≡ update_for (some u)
      same (permission k c x) = refl
      same (cleanup a b) = refl

  -- ---- the oldest leaves it

  pub pop-none : s.queue.items ≡ [] → pop s ≡ (none, s)
  unfolding pop
  pop-none e = rw e

  module _ (u : state.Update) (us : List state.Update) (e : s.queue.items ≡ u ∷ us) where
    pub pop-is : pop s ≡ (some u, with_queue (record { read_place = (s.queue.read_place + 1) % (s.sizes.updates + 1); items = us }) s)
    unfolding pop
    pop-is = rw e

    pub pop-read : update_at (tables_of s) (tables_of s).read ≡ update_for (some u)
    unfolding tables_of
    pop-read =
        update-read s.queue.read_place hf
        ∙ ap (λ k. update_for (get_elem? s.queue.items k)) (along-first (s.sizes.updates + 1) s.queue.read_place hf)
        ∙ ap (λ l. update_for (get_elem? l 0)) e

    pub pop-mark : mark_at (tables_of s) (tables_of s).read ≡ mark_for (some u)
    unfolding tables_of
    pop-mark =
        mark-read s.queue.read_place hf
        ∙ ap (λ k. mark_for (get_elem? s.queue.items k)) (along-first (s.sizes.updates + 1) s.queue.read_place hf)
        ∙ ap (λ l. mark_for (get_elem? l 0)) e

    pub pop-tables : tables_of (with_queue (record { read_place = (s.queue.read_place + 1) % (s.sizes.updates + 1); items = us }) s)
        ≡ with_places (with_mark (with_update (tables_of s) (tables_of s).read no_update) (tables_of s).read 0) (((tables_of s).read + 1) % (s.sizes.updates + 1)) (tables_of s).write
    unfolding tables_of with_places with_update with_ring with_mark with_marks
    pop-tables =
        let n = s.sizes.updates in
        let f = s.queue.read_place in
        let short : length (u ∷ us) < n + 1 = omega (arith, fits, ap length e) in
        let r = ring-popped n f hf us u short ∙ ap (λ l. set (ring_for n (record { read_place = f; items = l })) f no_update) (sym e) in
        let m = marks-popped n f hf us u short ∙ ap (λ l. set (marks_for n (record { read_place = f; items = l })) f 0) (sym e) in
        let w : ((f + 1) % (n + 1) + length us) % (n + 1) ≡ (f + length s.queue.items) % (n + 1) = wrap-add (n + 1) (f + 1) (length us) (omega arith) ∙ ap (λ (x : ℕ). x % (n + 1)) (omega (arith, ap length e)) in
        λ i. with_places (with_marks (with_ring (tables_of s) (r i)) (m i)) ((f + 1) % (n + 1)) (w i)
