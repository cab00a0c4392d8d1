-- The code's steps on a domain's records against the model: a record more, a record cut in two, a record less. Each step takes or frees a slot and
-- changes the list in one: between the two, the slot taken is in no list, and no state of the model has such tables.
-- Invariant (`Held`): domain x stands in slot d, and every record slot is in use or free once.
use Rattle.std.specs.Prelude.{◌≡◌, List, [], ◌∷◌, ◌++◌, length, get_or, Some, None, Err}
use Rattle.std.proofs.Math.Path.{refl, sym, ap}
use Rattle.std.proofs.Common.{◌∙◌, arith, set-set, lt-ltb}
use Prim.Native.Nat.{ℕ, suc, ◌+◌, ◌-◌, ◌^◌, ◌≤◌, ◌<◌}
use Rattle.std.proofs.Math.Option.{Option, none, some}
use Rattle.std.proofs.Math.ListN.{length-set}
use Rattle.std.proofs.Math.Seq.{get_or-set_same}
use Rattle.model.specs.Lists.{In}
use Rattle.refusals.specs.declared.Refusal.{Refusal}
use Rattle.model.specs.Outcome.{ok, refuse, ◌>>=◌}
use Rattle.model.specs.State as state
use Rattle.model.specs.State.{State, Record, Pool, Domain, put_domain, with_tracker}
use Rattle.model.specs.Pool.{allocate, free}
use Rattle.model.specs.Tracker.{with_end}
use Rattle.model.specs.Sound.{PoolSound, record_uses}
use Rattle.laws.specs.Accepted.{all-ok}
use Rattle.laws.specs.Answers.{answer}
use Rattle.laws.specs.Stack.{none-beyond, once-at-most}
use Rattle.laws.specs.Words.SameTrackers.{uses, first_slot}
use Rattle.laws.specs.Tracker.Pools.{Moved, uses-append, frame, allocate-moves}
use Rattle.laws.specs.Keep.Tracked.{uses-set}
use Rattle.laws.specs.Tree.Slots.{in-length}
use Rattle.tables.specs.declared.Handle.{Handle}
use Rattle.tables.specs.declared.Region.{Region}
use Rattle.tables.specs.Tables.{Tables, record_at, with_record, with_record_pool}
use Rattle.arena.specs.Arena as arena
use Rattle.refusals.specs.Refusals.{no_tracker}
use Rattle.answers.specs.Answers.{Effect, done, refused}
use Rattle.tracker_records.specs.Links as links
use Rattle.tables.specs.Links.{link_to}
use Rattle.tracker_records.specs.Links.{with_next, taken, inserted, split}
use Rattle.decoded.specs.Tables.{record_for, tables_of}
use Rattle.refine.specs.Changes.{record-pool-changed}
use Rattle.refine.specs.Arenas.Pools.{given_is, given-first, allocated-first, first-inside}
use Rattle.refine.specs.Tracker.TrackerSteps.{domains_with}
use Rattle.refine.specs.Agrees.{Agrees, agrees-step}
use Rattle.refine.specs.Tracker.Linked.{Spread, last_link, row_is, more, cut-in-two}

-- ---- a state with domain x's tracker and the record pool put back

unfoldable pub tracked : State → ℕ → Domain → List Record → Pool → State
tracked s d x l p = state.with_record_pool p (put_domain d (with_tracker l x) s)

-- what the code's steps on the records of domain x need
pub record Held (s : State) (d : ℕ) (x : Domain) : Type 0 where
  pub long : length s.domains ≡ s.sizes.domains
  pub at : In s.domains d x
  pub few : s.sizes.records ≤ 1024
  pub sound : PoolSound s.sizes.records (record_uses s.domains) s.record_pool

pub spread : (n : ℕ) (ds : List (Option Domain)) (p : Pool) → PoolSound n (record_uses ds) p → Spread n ds
spread n ds p h = record {
  once = λ i. omega (arith, once-at-most n (record_uses ds) p.free h.once i);
  below = λ i k. omega (arith, none-beyond n (record_uses ds) p.free h.once i k);
}

-- put back twice is put back once
pub tracked-again : (s : State) (d : ℕ) (x : Domain) (l m : List Record) (p p' : Pool) → tracked (tracked s d x l p) d (with_tracker l x) m p' ≡ tracked s d x m p'
unfolding tracked
tracked-again s d x l m p p' =
    ap (λ (ds : List (Option Domain)). state.with_record_pool p' (state.with_domains s.domain_pool ds s)) (set-set s.domains d (some (with_tracker l x)) (some (with_tracker m x)))

module _ (s : State) (d : ℕ) (x : Domain) (h : Held s d x) where
  -- slots move between the list and the pool
  pub moved-sound : (p : Pool) (l : List Record) → Moved s.record_pool p x.tracker l → PoolSound s.sizes.records (record_uses (domains_with s d x l)) p
  moved-sound p l m = record {
    gens_length = m.gens_length ∙ h.sound.gens_length;
    gens_words = m.gens_words h.sound.gens_words;
    once = λ i. omega (arith, h.sound.once i, m.slots i, uses-set s.domains d x (with_tracker l x) h.at i);
  }

  pub held_moved : (p : Pool) (l : List Record) → Moved s.record_pool p x.tracker l → Held (tracked s d x l p) d (with_tracker l x)
  unfolding tracked
  held_moved p l m = record {
    long = length-set s.domains d (some (with_tracker l x)) ∙ h.long;
    at = get_or-set_same s.domains d (some (with_tracker l x)) none (in-length s.domains d x h.at);
    few = h.few;
    sound = moved-sound p l m;
  }

-- ---- a slot taken

-- a pool has no free slot, or one that is given next
data First (l : List ℕ) : Type 0 where
  nothing : l ≡ [] → First l
  next : (i : ℕ) (is : List ℕ) → l ≡ i ∷ is → First l

first : (l : List ℕ) → First l
first [] = nothing refl
first (i ∷ is) = next i is refl

abbrev rest : Pool → List ℕ → Pool
rest p is = record { gens = p.gens; free = is }

allocate-none : (r : Refusal) (p : Pool) → p.free ≡ [] → allocate r p ≡ refuse r
unfolding allocate
allocate-none r p e = rw e

allocate-next : (r : Refusal) (p : Pool) (i : ℕ) (is : List ℕ) → p.free ≡ i ∷ is → allocate r p ≡ ok (i, rest p is)
unfolding allocate
allocate-next r p i is e = rw e

-- a record in another slot
abbrev pub in_slot : ℕ → Record → Record
in_slot i q = record { slot = i; start = q.start; end = q.end; counts = q.counts }

-- the part of a record from c on
abbrev pub from : ℕ → ℕ → Record → Record
from c i q = record { slot = i; start = c; end = q.end; counts = q.counts }

link-to : (i : ℕ) → i < 1024 → link_to i ≡ suc i
link-to i h = rw (lt-ltb i (2 ^ 64 - 1) (omega arith)) (omega arith)

module _ (t : Tables) where
  inserted-full : (d k : ℕ) (q : Region) → arena.given t.record_pool ≡ None → inserted t d k q ≡ refused no_tracker (taken t)
  unfolding inserted
  inserted-full d k q e = rw e

  inserted-at : (d k : ℕ) (q : Region) (h : Handle) → arena.given t.record_pool ≡ Some h
      → inserted t d k q ≡ done (link_to h.slot) (with_next (with_record (taken t) h.slot q) d k (link_to h.slot))
  unfolding inserted
  inserted-at d k q h e = rw e

  split-full : (i c : ℕ) → arena.given t.record_pool ≡ None → split t i c ≡ refused no_tracker (taken t)
  unfolding split
  split-full i c e = rw e

  split_at_lem : (i c : ℕ) (h : Handle) → arena.given t.record_pool ≡ Some h
      → split t i c
      ≡ done (link_to h.slot) (with_record (with_record (taken t) h.slot (links.with_start (record_at (taken t) i) c)) i (links.with_end (record_at (taken t) i) c (link_to h.slot)))
  unfolding split
  split_at_lem i c h e = rw e

-- the slot goes into the list
pub moves-in : (p p' : Pool) (i : ℕ) (n : Record) (l m : List Record) → allocate no_tracker p ≡ ok (i, p') → n.slot ≡ i
    → ((k : ℕ) → uses k l + uses k (n ∷ []) ≡ uses k m) → Moved p p' l m
moves-in p p' i n l m e k u = frame (all-ok _ _ (i, p') (answer (allocate-moves p)) e n k) (λ j. omega (arith, u j))

module _ (s : State) (d : ℕ) (x : Domain) (h : Held s d x) where
  -- a step that takes slot i, and leaves the list f i
  module _ (f : ℕ → List Record) (y : Effect) where
    taking : (arena.given (tables_of s).record_pool ≡ None → y.answer ≡ Err no_tracker)
        → ((i : ℕ) (is : List ℕ) → s.record_pool.free ≡ i ∷ is → Agrees y (ok (suc i, tracked s d x (f i) (rest s.record_pool is))))
        → Agrees y (allocate no_tracker s.record_pool >>= λ z. ok (suc z.0, tracked s d x (f z.0) z.1))
    unfolding ◌>>=◌ tables_of
    taking out in_use_lem =
        let p = s.record_pool in
        elim (first p.free) [
          | nothing e ↦
              rw (allocate-none no_tracker p e) (out (given_is s.sizes.records (record_uses s.domains) p h.sound no_tracker ∙ rw (allocate-none no_tracker p e)))
          | next i is e ↦ rw (allocate-next no_tracker p i is e) (in_use_lem i is e)
        ]

  module _ (i : ℕ) (is : List ℕ) (e : s.record_pool.free ≡ i ∷ is) where
    given-slot : arena.given (tables_of s).record_pool ≡ Some (record { slot = i; generation = get_or s.record_pool.gens i 0 })
    unfolding tables_of
    given-slot = given-first s.sizes.records (record_uses s.domains) s.record_pool h.sound i is e

    taken_is : taken (tables_of s) ≡ tables_of (state.with_record_pool (rest s.record_pool is) s)
    unfolding tables_of
    taken_is =
        ap (with_record_pool (tables_of s)) (allocated-first s.sizes.records (record_uses s.domains) s.record_pool h.sound i is e) ∙ sym (record-pool-changed s (rest s.record_pool is))

    link-is : link_to i ≡ suc i
    link-is = link-to i (omega (arith, h.few, first-inside s.sizes.records (record_uses s.domains) s.record_pool h.sound i is e))

    spread-in : (m : List Record) → Moved s.record_pool (rest s.record_pool is) x.tracker m → Spread s.sizes.records (domains_with s d x m)
    spread-in m v = spread s.sizes.records (domains_with s d x m) (rest s.record_pool is) (moved-sound s d x h (rest s.record_pool is) m v)

    spread-now : Spread s.sizes.records s.domains
    spread-now = spread s.sizes.records s.domains s.record_pool h.sound

  -- ---- one record more

  module _ (b a : List Record) (q : Record) (e : x.tracker ≡ b ++ a) where
    inserted-to : (i : ℕ) (is : List ℕ) → s.record_pool.free ≡ i ∷ is
        → inserted (tables_of s) d (last_link b) (record_for q (first_slot a)) ≡ done (suc i) (tables_of (tracked s d x (b ++ in_slot i q ∷ a) (rest s.record_pool is)))
    unfolding tracked
    inserted-to i is k =
        let s₁ = state.with_record_pool (rest s.record_pool is) s in
        let r = in_slot i q in
        let more-uses : (j : ℕ) → uses j x.tracker + uses j (r ∷ []) ≡ uses j (b ++ r ∷ a) = λ j. omega (arith, ap (uses j) e, uses-append j b a, uses-append j b (r ∷ a)) in
        let v = moves-in s.record_pool (rest s.record_pool is) i r x.tracker (b ++ r ∷ a) (allocate-next no_tracker s.record_pool i is k) refl more-uses in
        inserted-at (tables_of s) d (last_link b) (record_for q (first_slot a)) _ (given-slot i is k)
        ∙ ap (λ (t : Tables). done (link_to i) (with_next (with_record t i (record_for q (first_slot a))) d (last_link b) (link_to i))) (taken_is i is k)
        ∙ ap (λ (j : ℕ). done j (with_next (with_record (tables_of s₁) i (record_for q (first_slot a))) d (last_link b) j)) (link-is i is k)
        ∙ ap (done (suc i)) (more s₁ h.long d x h.at (spread-now i is k) r b a e (spread-in i is k (b ++ r ∷ a) v))

    -- q behind the last of b
    pub inserted-is : Agrees (inserted (tables_of s) d (last_link b) (record_for q (first_slot a)))
        (allocate no_tracker s.record_pool >>= λ z. ok (suc z.0, tracked s d x (b ++ in_slot z.0 q ∷ a) z.1))
    inserted-is =
        taking (λ i. b ++ in_slot i q ∷ a) (inserted (tables_of s) d (last_link b) (record_for q (first_slot a)))
        (λ k. ap (λ (y : Effect). y.answer) (inserted-full (tables_of s) d (last_link b) (record_for q (first_slot a)) k))
        (λ i is k. agrees-step _ _ (ok (suc i, _)) (inserted-to i is k) (refl, refl))

  -- ---- a record cut in two

  module _ (b a : List Record) (q : Record) (e : x.tracker ≡ b ++ q ∷ a) (c : ℕ) where
    split-to : (i : ℕ) (is : List ℕ) → s.record_pool.free ≡ i ∷ is
        → split (tables_of s) q.slot c ≡ done (suc i) (tables_of (tracked s d x (b ++ with_end c q ∷ from c i q ∷ a) (rest s.record_pool is)))
    unfolding tracked
    split-to i is k =
        let s₁ = state.with_record_pool (rest s.record_pool is) s in
        let m = b ++ with_end c q ∷ from c i q ∷ a in
        let more-uses : (j : ℕ) → uses j x.tracker + uses j (from c i q ∷ []) ≡ uses j m = λ j. omega (arith, ap (uses j) e, uses-append j b (q ∷ a), uses-append j b (with_end c q ∷ from c i q ∷ a)) in
        let v = moves-in s.record_pool (rest s.record_pool is) i (from c i q) x.tracker m (allocate-next no_tracker s.record_pool i is k) refl more-uses in
        let cut : Tables → Region → ℕ → Effect = λ t z j. done j (with_record (with_record t i (links.with_start z c)) q.slot (links.with_end z c j)) in
        let w = spread-now i is k in
        split_at_lem (tables_of s) q.slot c _ (given-slot i is k)
        ∙ ap (λ (t : Tables). cut t (record_at t q.slot) (link_to i)) (taken_is i is k)
        ∙ ap (cut (tables_of s₁) (record_at (tables_of s₁) q.slot)) (link-is i is k)
        ∙ ap (λ (z : Region). cut (tables_of s₁) z (suc i)) (row_is s₁ h.long d x h.at w b a q e)
        ∙ ap (done (suc i)) (cut-in-two s₁ h.long d x h.at w b a q (with_end c q) refl e (from c i q) (spread-in i is k m v))

    pub split-is : Agrees (split (tables_of s) q.slot c)
        (allocate no_tracker s.record_pool >>= λ z. ok (suc z.0, tracked s d x (b ++ with_end c q ∷ from c z.0 q ∷ a) z.1))
    split-is =
        taking (λ i. b ++ with_end c q ∷ from c i q ∷ a) (split (tables_of s) q.slot c)
        (λ k. ap (λ (y : Effect). y.answer) (split-full (tables_of s) q.slot c k))
        (λ i is k. agrees-step _ _ (ok (suc i, _)) (split-to i is k) (refl, refl))
