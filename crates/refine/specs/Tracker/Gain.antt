-- A domain gains a range: the code's `add_region` agrees with the model's `gain`, on the tables of a state whose record pool is sound.
-- The walk takes three turns at most for a record and two at the end, so that the code's number of turns suffices.
use Rattle.std.specs.Prelude.{ℕ, ◌<◌}
use Rattle.std.proofs.Common.{arith}
use Rattle.model.specs.Lists.{Each}
use Rattle.model.specs.Outcome.{ok, ◌>>=◌}
use Rattle.model.specs.State.{State, Domain, with_tracker, with_record_pool, put_domain}
use Rattle.model.specs.Tracker as tracker
use Rattle.model.specs.Tracker.{gain}
use Rattle.model.specs.Sound.{Rising}
use Rattle.laws.specs.Answers.{answer}
use Rattle.laws.specs.Tracker.Pools.{moved_none}
use Rattle.laws.specs.Tracker.Slots.{add-moves}
use Rattle.region.specs.declared.AccessRights.{AccessRights}
use Rattle.region.specs.declared.Way.TheVariants.{Add}
use Rattle.tracker.specs.Walks.{add_region}
use Rattle.decoded.specs.Tables.{tables_of}
use Rattle.refine.specs.Agrees.{Agrees}
use Rattle.refine.specs.Tracker.RecordSteps.{tracked, Held, held_moved}
use Rattle.refine.specs.Tracker.TrackerCounts.{Raisable}
use Rattle.refine.specs.Tracker.GainWalk.{gain-walks}
use Rattle.refine.specs.Tracker.MergedWalk.{tracker-fits, walked-merged}

pub add-refines : (s : State) (d : ℕ) (x : Domain) (a : AccessRights) → Held s d x → Rising 0 x.tracker → Each (λ q. Raisable q.counts) x.tracker → a.start < a.end
    → Agrees (add_region d a (tables_of s))
    (gain a.ops.0 a.start a.end x.tracker s.record_pool >>= λ w. ok (w.marks, with_record_pool w.pool (put_domain d (with_tracker w.records x) s)))
unfolding add_region gain tracked
add-refines s d x a h o u k =
    let l = x.tracker in
    let p = s.record_pool in
    walked-merged s d x a h Add (tracker.add_region a.ops.0 a.start a.end l p) (answer (add-moves a.ops.0 a.start a.end l p))
    (gain-walks s d x a _ a.start l p (held_moved s d x h p l (moved_none p l)) o k u (omega (arith, tracker-fits s d x h)))
