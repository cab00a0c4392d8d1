-- The code's steps that free a record, and the change of a record in place, against the model. A record leaves its list and its slot goes back to the
-- pool in one step; the row is wiped. Invariant as for the slots taken: `Held`.
use Rattle.std.specs.Prelude.{◌≡◌, ℕ, suc, ◌+◌, ◌-◌, ◌^◌, ◌<◌, true, false, not, List, [], ◌∷◌, ◌++◌, eqb, get_or, set}
use Rattle.std.proofs.Math.Path.{refl, ap}
use Rattle.std.proofs.Common.{sym, ◌∙◌, append_assoc, arith}
use Rattle.base.specs.Cases.{holds, fails, test}
use Rattle.model.specs.Lists.{one_if}
use Rattle.refusals.specs.Refusals.{spent}
use Rattle.model.specs.Outcome.{ok, refuse, ◌>>=◌, ◌>>◌, require}
use Rattle.model.specs.State as state
use Rattle.model.specs.State.{State, Record, Pool, Domain, with_tracker}
use Rattle.model.specs.Pool.{free}
use Rattle.model.specs.Layout.{link}
use Rattle.model.specs.Sound.{record_uses}
use Rattle.laws.specs.Answers.{answer}
use Rattle.laws.specs.Stack.{one}
use Rattle.laws.specs.Words.SameTrackers.{uses, first_slot, owned}
use Rattle.laws.specs.Tracker.Pools.{Moved, uses-append, moved_none, frame, free-moves}
use Rattle.laws.specs.Keep.Tracked.{uses-set}
use Rattle.tables.specs.Tables.{Tables, Arena, no_record, with_record, with_record_pool}
use Rattle.arena.specs.Arena as arena
use Rattle.pools.specs.Wiping.{slot_freed}
use Rattle.tracker_records.specs.Links.{with_next, freed_answer, freed_record}
use Rattle.decoded.specs.Tables.{record_for, pool_of, tables_of}
use Rattle.refine.specs.Changes.{record-pool-changed}
use Rattle.refine.specs.Arenas.Pools.{answer_by, pool_freed, answer-is, frees-is, freed-is}
use Rattle.refine.specs.Tracker.TrackerSteps.{domains_with}
use Rattle.refine.specs.Agrees.{Agrees}
use Rattle.refine.specs.Tracker.Linked.{Spread, slot-inside, last_link, row-pool, row_keeps, next-pool, next-keeps, less, less-row, changed}
use Rattle.refine.specs.Tracker.RecordSteps.{tracked, Held, spread, moved-sound}
use Rattle.laws.specs.Accepted.{all-ok}

-- ---- the model's pool

abbrev given_back : Pool → ℕ → Pool
given_back p i = record { gens = set p.gens i (suc (get_or p.gens i 0)); free = i ∷ p.free }

module _ (p : Pool) (i : ℕ) where
  free-spent : eqb (get_or p.gens i 0) (2 ^ 64 - 1) ≡ true → free i p ≡ refuse spent
  unfolding free require ◌>>◌
  free-spent e = rw e

  free-done : eqb (get_or p.gens i 0) (2 ^ 64 - 1) ≡ false → free i p ≡ ok (given_back p i)
  unfolding free require ◌>>◌
  free-done e = rw e

-- the slot leaves the list
pub moves_out : (p p' : Pool) (q : Record) (l m : List Record) → free q.slot p ≡ ok p' → ((k : ℕ) → uses k l ≡ uses k m + uses k (q ∷ [])) → Moved p p' l m
moves_out p p' q l m e u = frame (all-ok _ _ p' (answer (free-moves q p)) e) (λ j. omega (arith, u j))

-- ---- the code

module _ (t : Tables) (i : ℕ) where
  freed-tables : arena.frees_b t.record_pool i ≡ true → (freed_record t i).tables ≡ with_record (with_record_pool t (arena.freed t.record_pool i)) i no_record
  unfolding freed_record slot_freed
  freed-tables e = rw e

  freed-answer : (freed_record t i).answer ≡ freed_answer (arena.answer_to t.record_pool i)
  unfolding freed_record
  freed-answer = refl

module _ (s : State) (d : ℕ) (x : Domain) (h : Held s d x) where
  now : Spread s.sizes.records s.domains
  now = spread s.sizes.records s.domains s.record_pool h.sound

  -- record q, behind b, has the only use of its slot
  module _ (b a : List Record) (q : Record) (e : x.tracker ≡ b ++ q ∷ a) where
    slot-below : q.slot < s.sizes.records
    slot-below = slot-inside s.sizes.records s.domains now d x h.at b a q e

    used-once : record_uses s.domains q.slot ≡ 1
    used-once =
        let i = q.slot in
        omega (arith, now.once i, (owned s.domains d x h.at i).0, ap (uses i) e, uses-append i b (q ∷ a), one i i refl)

    gone : (m : List Record) → ((k : ℕ) → uses k x.tracker ≡ uses k m + uses k (q ∷ [])) → record_uses (domains_with s d x m) q.slot ≡ 0
    gone m u =
        let i = q.slot in
        omega (arith, used-once, u i, uses-set s.domains d x (with_tracker m x) h.at i, one i i refl)

  -- a step that frees slot i, and leaves the list m
  module _ (t : Tables) (i : ℕ) (m : List Record)
      (pool : t.record_pool ≡ pool_of s.sizes.records s.record_pool) (b : i < s.sizes.records) (u : record_uses s.domains i ≡ 1)
      (k : (p : Pool) → free i s.record_pool ≡ ok p → with_record (with_record_pool t (pool_of s.sizes.records p)) i no_record ≡ tables_of (tracked s d x m p))
    where
      answers : (freed_record t i).answer ≡ freed_answer (answer_by (free i s.record_pool))
      answers = freed-answer t i ∙ ap (λ (z : Arena). freed_answer (arena.answer_to z i)) pool ∙ ap freed_answer (answer-is s.sizes.records (record_uses s.domains) s.record_pool h.sound i b u)

      leaves : (p : Pool) → free i s.record_pool ≡ ok p → eqb (get_or s.record_pool.gens i 0) (2 ^ 64 - 1) ≡ false → (freed_record t i).tables ≡ tables_of (tracked s d x m p)
      leaves p f e =
          let n = s.sizes.records in
          let w = record_uses s.domains in
          freed-tables t i (ap (λ (z : Arena). arena.frees_b z i) pool ∙ frees-is n w s.record_pool h.sound i b u ∙ ap not e)
          ∙ ap (λ (z : Arena). with_record (with_record_pool t z) i no_record)
          (ap (λ (z : Arena). arena.freed z i) pool ∙ freed-is n w s.record_pool h.sound i b u ∙ ap (λ z. pool_of n (pool_freed s.record_pool z)) f)
          ∙ k p f

      freeing : Agrees (freed_record t i) (free i s.record_pool >>= λ p. ok (0, tracked s d x m p))
      unfolding ◌>>=◌
      freeing =
          let p = s.record_pool in
          elim (test (eqb (get_or p.gens i 0) (2 ^ 64 - 1))) [
            | holds e ↦ rw (free-spent p i e) (answers ∙ ap (λ z. freed_answer (answer_by z)) (free-spent p i e))
            | fails e ↦ rw (free-done p i e) (answers ∙ ap (λ z. freed_answer (answer_by z)) (free-done p i e), leaves (given_back p i) (free-done p i e) e)
          ]

  -- ---- q leaves the list, from behind the last of b

  module _ (b a : List Record) (q : Record) (e : x.tracker ≡ b ++ q ∷ a) where
    out : (k : ℕ) → uses k x.tracker ≡ uses k (b ++ a) + uses k (q ∷ [])
    out k = omega (arith, ap (uses k) e, uses-append k b (q ∷ a), uses-append k b a)

    removed-to : (p : Pool) → free q.slot s.record_pool ≡ ok p
        → with_record (with_record_pool (with_next (tables_of s) d (last_link b) (link (first_slot a))) (pool_of s.sizes.records p)) q.slot no_record ≡ tables_of (tracked s d x (b ++ a) p)
    unfolding tracked
    removed-to p f =
        let v = moves_out s.record_pool p q x.tracker (b ++ a) f out in
        ap (λ (t : Tables). with_record t q.slot no_record)
        (next-pool (tables_of s) d (last_link b) (link (first_slot a)) (pool_of s.sizes.records p) ∙ ap (λ (t : Tables). with_next t d (last_link b) (link (first_slot a))) (sym (record-pool-changed s p)))
        ∙ less (state.with_record_pool p s) h.long d x h.at now q b a e
        (spread s.sizes.records (domains_with s d x (b ++ a)) p (moved-sound s d x h p (b ++ a) v)) (gone b a q e (b ++ a) out)

    pub removed-is : Agrees (freed_record (with_next (tables_of s) d (last_link b) (link (first_slot a))) q.slot) (free q.slot s.record_pool >>= λ p. ok (0, tracked s d x (b ++ a) p))
    unfolding tables_of
    removed-is =
        freeing (with_next (tables_of s) d (last_link b) (link (first_slot a))) q.slot (b ++ a)
        (next-keeps (tables_of s) d (last_link b) (link (first_slot a))) (slot-below b a q e) (used-once b a q e) removed-to

  -- ---- n leaves the list, and p takes the place of q before it

  module _ (b a : List Record) (q p n : Record) (same : p.slot ≡ q.slot) (e : x.tracker ≡ b ++ q ∷ n ∷ a) where
    e' : x.tracker ≡ (b ++ q ∷ []) ++ n ∷ a
    e' = e ∙ sym (append_assoc b (q ∷ []) (n ∷ a))

    outside : (k : ℕ) → uses k x.tracker ≡ uses k (b ++ p ∷ a) + uses k (n ∷ [])
    outside k = omega (arith, ap (uses k) e, uses-append k b (q ∷ n ∷ a), uses-append k b (p ∷ a), ap (λ (i : ℕ). one_if (eqb k i)) same)

    joined_to : (z : Pool) → free n.slot s.record_pool ≡ ok z
        → with_record (with_record_pool (with_record (tables_of s) p.slot (record_for p (first_slot a))) (pool_of s.sizes.records z)) n.slot no_record ≡ tables_of (tracked s d x (b ++ p ∷ a) z)
    unfolding tracked
    joined_to z f =
        let v = moves_out s.record_pool z n x.tracker (b ++ p ∷ a) f outside in
        let r = record_for p (first_slot a) in
        ap (λ (t : Tables). with_record t n.slot no_record)
        (row-pool (tables_of s) p.slot r (pool_of s.sizes.records z) ∙ ap (λ (t : Tables). with_record t p.slot r) (sym (record-pool-changed s z)))
        ∙ less-row (state.with_record_pool z s) h.long d x h.at now n b a q p same e
        (spread s.sizes.records (domains_with s d x (b ++ p ∷ a)) z (moved-sound s d x h z (b ++ p ∷ a) v)) (gone (b ++ q ∷ []) a n e' (b ++ p ∷ a) outside)

    pub joined_is : Agrees (freed_record (with_record (tables_of s) p.slot (record_for p (first_slot a))) n.slot) (free n.slot s.record_pool >>= λ z. ok (0, tracked s d x (b ++ p ∷ a) z))
    unfolding tables_of
    joined_is =
        freeing (with_record (tables_of s) p.slot (record_for p (first_slot a))) n.slot (b ++ p ∷ a)
        (row_keeps (tables_of s) p.slot (record_for p (first_slot a))) (slot-below (b ++ q ∷ []) a n e') (used-once (b ++ q ∷ []) a n e') joined_to

  -- ---- a record changed in place

  module _ (b a : List Record) (q p : Record) (same : p.slot ≡ q.slot) (e : x.tracker ≡ b ++ q ∷ a) where
    moves-none : Moved s.record_pool s.record_pool x.tracker (b ++ p ∷ a)
    moves-none = frame (moved_none s.record_pool []) (λ k. omega (arith, ap (uses k) e, uses-append k b (q ∷ a), uses-append k b (p ∷ a), ap (λ (i : ℕ). one_if (eqb k i)) same))

    pub changed-is : with_record (tables_of s) p.slot (record_for p (first_slot a)) ≡ tables_of (tracked s d x (b ++ p ∷ a) s.record_pool)
    unfolding tracked
    changed-is =
        changed s h.long d x h.at now b a q p same e
        (spread s.sizes.records (domains_with s d x (b ++ p ∷ a)) s.record_pool (moved-sound s d x h s.record_pool (b ++ p ∷ a) moves-none))
