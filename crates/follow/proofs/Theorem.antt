-- A writer that follows the queue loses nothing: the theorem, from what every call keeps on sound tables.
use Rattle.std.specs.Prelude.{◌≡◌, refl, ◌⊎◌, ℕ, ◌<◌, Bool, true, false, not, T, ltb, if◌then◌else◌}
use Rattle.std.proofs.Common.{inl, inr, T_not, lt-ltb}
use Rattle.std.proofs.Math.Option.{none, some}
use mathlib.Core.List.{List, [], ◌∷◌, map}
use Rattle.std.proofs.Math.Dec.{not_T}
use Rattle.std.specs.Float.Ieee.Fits.{and_l}
use Rattle.model.specs.Lists.{exists, Each, at_slot}
use Rattle.model.specs.Outcome.{Outcome, ok, refuse}
use Rattle.model.specs.State.{State, Sizes, Handle, Record, Update, permission, cleanup, domain_at}
use Rattle.model.specs.Fields.{Field, is_marked}
use Rattle.model.specs.Pool.{handle_of, is_live}
use Rattle.model.specs.Updates.{is_permission_of}
use Rattle.model.specs.Making.{make_tables}
use Rattle.model.specs.Counts.{holds, counts_at, stored_counts}
use Rattle.model.specs.Readings.{rights_of, permission_of, permissions}
use Rattle.model.specs.Calls.{live_domain}
use Rattle.model.specs.Perform.{Call, Value, perform, after, step, run}
use Rattle.model.specs.CallWords.{CallWords}
use Rattle.model.specs.Sound.{Sound}
use Rattle.laws.specs.Accepted.{All, accepted, bind, checked, all-ok}
use Rattle.laws.specs.Tree.Slots.{is_live_lem}
use Rattle.laws.specs.Keep.BaseSteps.{Live}
use Rattle.laws.specs.Empty.{empty-sound}
use Rattle.laws.specs.SoundKept.{step-sound}
use Rattle.follow.specs.Writer.{Seen, nothing, accepts, watches, follow, is_queued, is_permission_with, is_queued_with, Exact, ExactUncacheable, is_permission, listed_at, seen_rights, Follows, Followed, Listed}
use Rattle.follow.proofs.Quiet.{Count}
use Rattle.follow.proofs.Queue.{any_of}
use Rattle.follow.proofs.Steps.{Tracks}
use Rattle.follow.proofs.Told.{make-tracks}
use Rattle.follow.proofs.Perform.{perform-tracks}

-- ---- a list of calls

module _ (more : Field → Bool) where
  -- a refused call leaves the state, and what was seen
  after-tracks : (v : Seen) (s : State) (c : Call) (m : Outcome (Value × State)) → Tracks (Live s) v s → All (λ x. Tracks (Live x.1) (accepts more v c x.0 x.1) x.1) m → Tracks (Live (after s m).1) (watches more v c (after s m).0 (after s m).1) (after s m).1
  after-tracks v s c (ok x) h (accepted k) = k
  after-tracks v s c (refuse r) h k = h

  pub step-tracks : (v : Seen) (s : State) (c : Call) → Sound s → CallWords c → Tracks (Live s) v s → Tracks (Live (step s c).1) (watches more v c (step s c).0 (step s c).1) (step s c).1
  unfolding step
  step-tracks v s c sound w h = after-tracks v s c (perform s c) h (perform-tracks more v s sound h c w)

  pub list-tracks : (cs : List Call) (v : Seen) (s : State) → Sound s → Each CallWords cs → Tracks (Live s) v s → Tracks (Live (run s cs).1) (follow more v s cs) (run s cs).1
  unfolding follow run
  list-tracks [] v s sound w h = h
  list-tracks (c ∷ cs) v s sound w h = list-tracks cs (watches more v c (step s c).0 (step s c).1) (step s c).1 (step-sound s c sound w.0) w.1 (step-tracks v s c sound w.0 h)

  module _ (z : Sizes) (s : State) (cs : List Call) (e : make_tables z ≡ ok s) (w : Each CallWords cs) where
    tracks : Tracks (Live (run s cs).1) (follow more nothing s cs) (run s cs).1
    tracks = list-tracks cs nothing s (all-ok Sound (make_tables z) s (empty-sound z) e) w (all-ok (λ t. Tracks (Live t) nothing t) (make_tables z) s (make-tracks z) e)

    -- of every slot with a domain in it
    pub follows-field : (d : ℕ) → Live (run s cs).1 d → (f : Field) → T (is_queued_with f (run s cs).1 d) ⊎ Exact f (follow more nothing s cs) (run s cs).1 d
    follows-field d l f = tracks.queued_or_exact d l (Count.Of f)

    pub follows-uncacheable : (d : ℕ) → Live (run s cs).1 d → T (is_queued_with Field.Reach (run s cs).1 d) ⊎ ExactUncacheable (follow more nothing s cs) (run s cs).1 d
    follows-uncacheable d l = tracks.queued_or_exact d l Count.Uncacheable

-- THEOREM
pub follows : Follows
follows more z s cs e w d x i = let l = is_live_lem (at_slot (run s cs).1.domains d) x i in (follows-field more z s cs e w d l, follows-uncacheable more z s cs e w d l)

-- ---- where no update of a domain is queued

with-of : (f : Field) (h : Handle) (u : Update) → T (is_permission_with f h u) → T (is_permission_of h u)
with-of f h (permission k cores m) t = and_l (is_permission_of h (permission k cores m)) (is_marked f m) t
with-of f h (cleanup a b) t = t

names-one : (h : Handle) (u : Update) → T (is_permission_of h u) → T (is_permission u)
names-one h (permission k cores m) t = tt
names-one h (cleanup a b) t = t

second : {A B : Type 0} → A ⊎ B → (A → ⊥) → B
second (inl a) n = absurd (n a)
second (inr b) n = b

module _ (more : Field → Bool) (z : Sizes) (s : State) (cs : List Call) (e : make_tables z ≡ ok s) (w : Each CallWords cs) (d : ℕ) (l : Live (run s cs).1 d) where
  -- of a live domain of which none is queued everything is exact
  unqueued : T (not (is_queued (run s cs).1 d)) → ((f : Field) → Exact f (follow more nothing s cs) (run s cs).1 d) × ExactUncacheable (follow more nothing s cs) (run s cs).1 d
  unqueued n =
      let h = handle_of (run s cs).1.domain_pool d in
      let us = (run s cs).1.queue.items in
      let none-with : (f : Field) → T (is_queued_with f (run s cs).1 d) → ⊥ = λ f t. T_not (is_queued (run s cs).1 d) n (any_of (is_permission_with f h) (is_permission_of h) us (with-of f h) t) in
      (λ f. second (follows-field more z s cs e w d l f) (none-with f), second (follows-uncacheable more z s cs e w d l) (none-with Field.Reach))

-- COROLLARY
pub followed : Followed
followed more z s cs e w n d x i =
    let t = (run s cs).1 in
    let h = handle_of t.domain_pool d in
    unqueued more z s cs e w d (is_live_lem (at_slot t.domains d) x i) (not_T (is_queued t d) (λ q. T_not (exists is_permission t.queue.items) n (any_of (is_permission_of h) is_permission t.queue.items (names-one h) q)))

-- ---- the permission list

listed-counts : (l : List Record) (a : ℕ) → Each (λ q. 0 < q.counts.reach) l → listed_at (map permission_of l) a ≡ (if ltb 0 (counts_at l a).reach then some (rights_of (counts_at l a)) else none)
listed-counts [] a h = refl
listed-counts (q ∷ l) a h = go (holds q.start q.end a) refl (listed-counts l a h.1)
  where
    go : (b : Bool) → holds q.start q.end a ≡ b → listed_at (map permission_of l) a ≡ (if ltb 0 (counts_at l a).reach then some (rights_of (counts_at l a)) else none) → listed_at (map permission_of (q ∷ l)) a ≡ (if ltb 0 (counts_at (q ∷ l) a).reach then some (rights_of (counts_at (q ∷ l) a)) else none)
    go true e ih = rw (e, lt-ltb 0 q.counts.reach h.0)
    go false e ih = rw e ih

-- the rights that were seen are those of the counts
seen-rights : (v : Seen) (s : State) (d : ℕ) → ((f : Field) → Exact f v s d) → ExactUncacheable v s d → (a : ℕ) → rights_of (stored_counts s d a) ≡ seen_rights v d a
seen-rights v s d above uncacheable a = rw (← above Field.Read a, ← above Field.Write a, ← above Field.Exec a, ← above Field.Super a, ← uncacheable a)

seen-list : (v : Seen) (s : State) (d : ℕ) → Tracks (Live s) v s → ((f : Field) → Exact f v s d) → ExactUncacheable v s d → (a : ℕ) → listed_at (map permission_of (domain_at s d).tracker) a ≡ (if v.above d a Field.Reach then some (seen_rights v d a) else none)
seen-list v s d g above uncacheable a = rw (← seen-rights v s d above uncacheable a, ← above Field.Reach a) (listed-counts (domain_at s d).tracker a (g.form d).reached)

-- what the reading answers, and that the domain is live where it is accepted
answered : (h : Handle) (s : State) → All (λ l. (l ≡ map permission_of (domain_at s h.slot).tracker) × Live s h.slot) (permissions h s)
unfolding permissions live_domain
answered h s = bind {P = λ d. (d ≡ h.slot) × Live s h.slot} (checked (is_live s.domain_pool s.domains h) _ (λ t. accepted (refl, search and_l))) (λ d (e, l). accepted (rw e, l))

-- THEOREM
pub listed : Listed
listed more z s cs e w h l p n a =
    let t = (run s cs).1 in
    let (same, live) = all-ok (λ m. (m ≡ map permission_of (domain_at t h.slot).tracker) × Live t h.slot) (permissions h t) l (answered h t) p in
    let exact = unqueued more z s cs e w h.slot live n in
    rw same (seen-list (follow more nothing s cs) t h.slot (tracks more z s cs e w) exact.0 exact.1 a)
