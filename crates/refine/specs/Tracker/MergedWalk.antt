-- A walk over a domain's records, from the first one on, and the merge after it: what the code and the model do for a gain and for a loss alike.
-- The code's number of turns suffices: a tracker has at most as many records as the pool has slots, since every slot is in it once at most.
use Rattle.std.specs.Prelude.{◌≡◌, ℕ, ◌+◌, ◌-◌, ◌*◌, ◌≤◌, List, [], map, eqb, length}
use Rattle.std.proofs.Math.Path.{refl, sym, ap}
use Rattle.std.proofs.Common.{◌∙◌, arith}
use Rattle.std.specs.Int.Bits.{or_zero_r}
use Rattle.std.proofs.lemmas.List.{length-map}
use Rattle.model.specs.Lists.{count_if}
use Rattle.model.specs.Outcome.{Outcome, ok, ◌>>=◌}
use Rattle.model.specs.State.{State, Record, Pool, Domain, with_tracker}
use Rattle.model.specs.Layout.{link}
use Rattle.model.specs.Tracker.{Walk, coalesce, merged}
use Rattle.model.specs.Sound.{OnceEach, record_uses}
use Rattle.laws.specs.Accepted.{All, all-ok}
use Rattle.laws.specs.Words.SameTrackers.{uses, first_slot, owned, slots-uses}
use Rattle.laws.specs.Tracker.Pools.{Moved, moved_none}
use Rattle.answers.specs.Answers.{and_then}
use Rattle.region.specs.declared.AccessRights.{AccessRights}
use Rattle.region.specs.declared.Way.{Way}
use Rattle.region.specs.declared.Way.TheVariants.{Merge}
use Rattle.tracker.specs.Walks as turns
use Rattle.tracker.specs.Walks.{walk}
use Rattle.decoded.specs.Tables.{tables_of}
use Rattle.decoded.specs.Free.{free-fits}
use Rattle.refine.specs.Agrees.{Agrees, agrees-step, agrees-call, agrees_from, bind_assoc, bind-same}
use Rattle.refine.specs.Tracker.RecordSteps.{tracked, Held, held_moved}
use Rattle.refine.specs.Tracker.WalkSteps.{walked}
use Rattle.refine.specs.Tracker.Walking.{cursor, finish, tracked-same, Fits, first-here}
use Rattle.refine.specs.Tracker.Walks.{Walks}
use Rattle.refine.specs.Tracker.Merge.{joining, coalesce-walks}

-- ---- how long a tracker is

-- at most as long as there are slots
pub tracker-fits : (s : State) (d : ℕ) (x : Domain) → Held s d x → length x.tracker ≤ s.sizes.records
tracker-fits s d x h =
    let l = x.tracker in
    let ks = map (λ (q : Record). q.slot) l in
    let others : ℕ → ℕ = λ i. record_uses s.domains i - uses i l + count_if (eqb i) s.record_pool.free in
    let once : OnceEach s.sizes.records others ks = λ i. omega (arith, slots-uses i l, (owned s.domains d x h.at i).0, h.sound.once i) in
    omega (arith, free-fits s.sizes.records others ks once, length-map l (λ (q : Record). q.slot))

-- ---- a walk from the first record on

module _ (s : State) (d : ℕ) (x : Domain) (a : AccessRights) where
  length-fits : (l : List Record) (p : Pool) → Fits s d x l p → length l ≤ s.sizes.records
  unfolding tracked
  length-fits l p h = tracker-fits (tracked s d x l p) d (with_tracker l x) h

  enough : (l : List Record) (p : Pool) → turns.turns (tables_of (tracked s d x l p)) ≡ 3 * s.sizes.records + 3
  unfolding tables_of tracked
  enough l p = refl

  walked-is : (w : Way) (z : ℕ) (l : List Record) (p : Pool) → Fits s d x l p
      → turns.walked w d a z (tables_of (tracked s d x l p)) ≡ walk w d a (3 * s.sizes.records + 3) (cursor [] l a.start z) (tables_of (tracked s d x l p))
  unfolding turns.walked cursor
  walked-is w z l p h =
      let t = tables_of (tracked s d x l p) in
      ap (λ (k : ℕ). walk w d a (turns.turns t) (record { prev = 0; at = k; start = a.start; marks = z }) t) (first-here s d x l p h)
      ∙ ap (λ (k : ℕ). walk w d a k (record { prev = 0; at = link (first_slot l); start = a.start; marks = z }) t) (enough l p)

  whole : (w : Way) (z : ℕ) (l : List Record) (p : Pool) (m : Outcome Walk) → Fits s d x l p → Walks s d x a w (3 * s.sizes.records + 3) a.start z [] l p m
      → Agrees (turns.walked w d a z (tables_of (tracked s d x l p))) (m >>= finish s d x z [])
  whole w z l p m h k = agrees-step _ _ (m >>= finish s d x z []) (walked-is w z l p h) k.agrees

  -- ---- the merge after it

  -- the model's answer
  abbrev put : Walk → Outcome (ℕ × State)
  put w = ok (w.marks, tracked s d x w.records w.pool)

  join-put : (z : ℕ) (m : Outcome (List Record × Pool)) → (m >>= λ y. ok (walked y.0 y.1 z)) >>= put ≡ joining m >>= finish s d x z []
  unfolding joining finish ◌>>=◌
  join-put z m =
      bind_assoc m _ put
      ∙ sym (bind_assoc m _ (finish s d x z []) ∙ bind-same m _ _ (λ y. ap (λ (k : ℕ). ok (k, tracked s d x y.0 y.1)) (or_zero_r z)))

  merged-put : (m : Outcome Walk) → merged m >>= put ≡ m >>= (λ w. joining (coalesce w.records w.pool) >>= finish s d x w.marks [])
  unfolding merged
  merged-put m = bind_assoc m _ put ∙ bind-same m _ _ (λ w. join-put w.marks (coalesce w.records w.pool))

  merge-after : (w : Walk) → Fits s d x w.records w.pool
      → Agrees (turns.walked Merge d a w.marks (tables_of (tracked s d x w.records w.pool))) (joining (coalesce w.records w.pool) >>= finish s d x w.marks [])
  merge-after w h =
      let l = w.records in
      let p = w.pool in
      whole Merge w.marks l p _ h (coalesce-walks s d x a a.start (3 * s.sizes.records + 3) w.marks l p h (omega (arith, length-fits l p h)))

  -- a walk that agrees with the model's m, and the merge
  module _ (h : Held s d x) (w : Way) (m : Outcome Walk) (moves : All (λ y. Moved s.record_pool y.pool x.tracker y.records) m) where
    start_fits : Fits s d x x.tracker s.record_pool
    start_fits = held_moved s d x h s.record_pool x.tracker (moved_none s.record_pool x.tracker)

    first_walk : Walks s d x a w (3 * s.sizes.records + 3) a.start 0 [] x.tracker s.record_pool m → Agrees (turns.walked w d a 0 (tables_of s)) (m >>= finish s d x 0 [])
    first_walk k =
        agrees-step _ _ (m >>= finish s d x 0 []) (ap (λ (y : State). turns.walked w d a 0 (tables_of y)) (sym (tracked-same s d x h.at))) (whole w 0 x.tracker s.record_pool m start_fits k)

    pub walked-merged : Walks s d x a w (3 * s.sizes.records + 3) a.start 0 [] x.tracker s.record_pool m
        → Agrees (and_then (turns.walked w d a 0 (tables_of s)) (turns.walked Merge d a)) (merged m >>= λ y. ok (y.marks, tracked s d x y.records y.pool))
    unfolding finish
    walked-merged k =
        agrees-call _ _ _ (merged-put m)
        (agrees_from (turns.walked w d a 0 (tables_of s)) (turns.walked Merge d a) m (λ y. (y.marks, tracked s d x y.records y.pool)) _ (first_walk k)
        (λ y e. merge-after y (held_moved s d x h y.pool y.records (all-ok _ _ y moves e))))
