-- A domain gains, or loses, a range: the walk over its tracker, and where a count left or came to 0 the update that this queues. The walks are the
-- tracker's; here the answer of a walk, its marks, becomes the model's `put_walk`.
use Rattle.std.specs.Prelude.{◌≡◌, refl, ℕ, ◌<◌, Bool, ◌||◌, List, [], eqb, if◌then◌else◌}
use Rattle.std.proofs.Math.Path.{ap}
use Rattle.std.proofs.Common.{◌∙◌, sym, length-set, get_or-set_same, mod-eq_of_lt}
use Rattle.std.proofs.Math.Bool.{true, false}
use Rattle.std.proofs.Math.Option.{some, none}
use Rattle.base.specs.Cases.{pick}
use Rattle.model.specs.Lists.{exists, Each, at_slot, In}
use Rattle.model.specs.Outcome.{Outcome, ok, ◌>>=◌}
use Rattle.model.specs.State.{State, Domain, put_domain, with_tracker, with_record_pool, Access}
use Rattle.model.specs.Tracker.{Walk, gain, lose}
use Rattle.model.specs.Updates.{push_permission}
use Rattle.model.specs.Regions as model
use Rattle.model.specs.Regions.{put_walk}
use Rattle.model.specs.Sound.{Rising}
use Rattle.laws.specs.Tree.Slots.{in-length, live-is}
use Rattle.laws.specs.Tree.Steps.{domain-at}
use Rattle.answers.specs.Answers.{Effect, done, and_then}
use Rattle.tracker.specs.Walks.{add_region, remove_region}
use Rattle.domain.specs.Activate.{notify, notify_if, activate, deactivate}
use Rattle.decoded.specs.Sizes.{good-limits}
use Rattle.decoded.specs.Tables.{tables_of}
use Rattle.refine.specs.Agrees.{Agrees, agrees-step, agrees-call, agrees_from, bind_assoc}
use Rattle.refine.specs.Queue.RingSteps.{notify-refines}
use Rattle.refine.specs.Tracker.RecordSteps.{Held}
use Rattle.refine.specs.Tracker.TrackerCounts.{Raisable}
use Rattle.refine.specs.Tracker.Gain.{add-refines}
use Rattle.refine.specs.Tracker.Lose.{remove-refines}
use Rattle.refine.specs.Calls.Bounds.{TrackersRaisable}
use Rattle.refine.specs.Calls.ClosingSet.{SameClosing, none-same, domain-low}
use Rattle.laws.specs.Keep.BaseSteps.{Live}
use Rattle.tables.specs.Tables.{Tables}
use Rattle.region.specs.declared.AccessRights.{AccessRights}
use Rattle.segment.specs.Regions.{access}
use Rattle.refine.specs.Tree.ChildChecks.{access_for}

-- what a call without a number gives, with the number 0
abbrev pub plain : Outcome State → Outcome (ℕ × State)
plain m = m >>= λ s. ok (0, s)

-- the code's step f does what the model's call m does
abbrev pub Follows : (ℕ → AccessRights → Tables → Effect) → (ℕ → Access → State → Outcome State) → Type 0
Follows f m = (s : State) (d : ℕ) (a : AccessRights) → TrackersRaisable s → Live s d → a.start < a.end → Agrees (f d a (tables_of s)) (plain (m d (access_for a) s))

-- with rights as a region stores them
pub follows_range : (f : ℕ → AccessRights → Tables → Effect) (m : ℕ → Access → State → Outcome State) → Follows f m
    → (s : State) (d x y r : ℕ) → r < 256 → TrackersRaisable s → Live s d → x < y → Agrees (f d (access x y r) (tables_of s)) (plain (m d (record { start = x; end = y; rights = r }) s))
follows_range f m h s d x y r byte k l z =
    agrees-call (f d (access x y r) (tables_of s)) (plain (m d (record { start = x; end = y; rights = r }) s)) (plain (m d (access_for (access x y r)) s))
    (ap (λ (n : ℕ). plain (m d (record { start = x; end = y; rights = n }) s)) (sym (mod-eq_of_lt byte)))
    (h s d (access x y r) k l z)

-- ---- what the walks need

module _ (s : State) (raisable : TrackersRaisable s) (d : ℕ) (x : Domain) (at : In s.domains d x) where
  held : Held s d x
  held = record { long = raisable.base.domains.size; at = at; few = (good-limits s.sizes raisable.base.ring.sizes_good).records-high; sound = raisable.pool }

  rising : Rising 0 x.tracker
  rising = rw (domain-at s d x at) at (raisable.form d).rising

  low : Each (λ q. Raisable q.counts) x.tracker
  low = rw (domain-at s d x at) at (raisable.low d)

  -- ---- a walk is put back, and a mark queues the domain

  abbrev after : Walk → State
  after w = with_record_pool w.pool (put_domain d (with_tracker w.records x) s)

  -- by whether nothing is queued
  abbrev queued : Bool → Walk → Outcome State
  queued b w = if b then ok (after w) else push_permission d w.marks (after w)

  notify-by : (w : Walk) (b : Bool) → Agrees (pick b (done 0 (tables_of (after w))) (notify d w.marks (tables_of (after w)))) (plain (queued b w))
  unfolding ◌>>=◌
  notify-by w true = (refl, refl)
  notify-by w false =
      let q = raisable.base.ring.queue in
      notify-refines (after w) (good-limits s.sizes raisable.base.ring.sizes_good).updates-high q.read_place q.fits d w.marks (with_tracker w.records x)
      (length-set s.domains d (some (with_tracker w.records x)) ∙ raisable.base.domains.size)
      (get_or-set_same s.domains d (some (with_tracker w.records x)) none (in-length s.domains d x at))
      q.singly

  -- the domains that are closing, in the code and in the model
  module _ (closing : ℕ) (ls : List ℕ) (same : SameClosing closing ls) where
    abbrev silent : Walk → Bool
    silent w = exists (eqb d) ls || eqb w.marks 0

    notify-if : (w : Walk) → Agrees (notify_if closing d w.marks (tables_of (after w))) (plain (queued (silent w) w))
    notify-if w =
        agrees-step _ _ (plain (queued (silent w) w))
        (ap (λ (b : Bool). pick (b || eqb w.marks 0) (done 0 (tables_of (after w))) (notify d w.marks (tables_of (after w)))) (same d (domain-low s raisable.base d x at)))
        (notify-by w (silent w))

    put_is : (w : Walk) → put_walk ls d w s ≡ queued (silent w) w
    unfolding put_walk
    put_is w = ap (λ (y : Domain). let t = with_record_pool w.pool (put_domain d (with_tracker w.records y) s) in if silent w then ok t else push_permission d w.marks t) (domain-at s d x at)

    -- the walk m of the model, which the code's step z does
    walk-refines : (z : Effect) (m : Outcome Walk) → Agrees z (m >>= λ w. ok (w.marks, after w)) → Agrees (and_then z (notify_if closing d)) (plain (m >>= λ w. put_walk ls d w s))
    walk-refines z m h =
        agrees-call _ _ _ (bind_assoc m _ _)
        (agrees_from z (notify_if closing d) m (λ w. (w.marks, after w)) (λ w. plain (put_walk ls d w s)) h (λ w e. agrees-call _ _ _ (ap plain (put_is w)) (notify-if w)))

module _ (closing : ℕ) (ls : List ℕ) (same : SameClosing closing ls) where
  pub activate-refines : Follows (activate closing) (model.activate ls)
  unfolding activate model.activate
  activate-refines s d a raisable live z =
      let (x, at) = live-is (at_slot s.domains d) live in
      agrees-call _ _ _ (ap (λ (y : Domain). plain (gain a.ops.0 a.start a.end y.tracker s.record_pool >>= λ w. put_walk ls d w s)) (domain-at s d x at))
      (walk-refines s raisable d x at closing ls same (add_region d a (tables_of s)) (gain a.ops.0 a.start a.end x.tracker s.record_pool) (add-refines s d x a (held s raisable d x at) (rising s raisable d x at) (low s raisable d x at) z))

  pub deactivate-refines : Follows (deactivate closing) (model.deactivate ls)
  unfolding deactivate model.deactivate
  deactivate-refines s d a raisable live z =
      let (x, at) = live-is (at_slot s.domains d) live in
      agrees-call _ _ _ (ap (λ (y : Domain). plain (lose a.ops.0 a.start a.end y.tracker s.record_pool >>= λ w. put_walk ls d w s)) (domain-at s d x at))
      (walk-refines s raisable d x at closing ls same (remove_region d a (tables_of s)) (lose a.ops.0 a.start a.end x.tracker s.record_pool) (remove-refines s d x a (held s raisable d x at) (rising s raisable d x at) z))

-- where no domain is closing
pub gain-refines : Follows (activate 0) (model.activate [])
gain-refines = activate-refines 0 [] none-same

pub loss-refines : Follows (deactivate 0) (model.deactivate [])
loss-refines = deactivate-refines 0 [] none-same
