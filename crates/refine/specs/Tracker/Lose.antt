-- A domain loses a range: the code's `remove_region` agrees with the model's `lose`, on the tables of a state whose record pool is sound.
-- The walk takes three turns at most for a record and one at the end, so that the code's number of turns suffices. Counts may be any numbers: less than
-- nothing is 0 on both sides.
use Rattle.std.specs.Prelude.{ℕ, ◌<◌}
use Rattle.std.proofs.Common.{arith}
use Rattle.model.specs.Outcome.{ok, ◌>>=◌}
use Rattle.model.specs.State.{State, Domain, with_tracker, with_record_pool, put_domain}
use Rattle.model.specs.Tracker as tracker
use Rattle.model.specs.Tracker.{lose}
use Rattle.model.specs.Sound.{Rising}
use Rattle.laws.specs.Answers.{answer}
use Rattle.laws.specs.Tracker.Pools.{moved_none}
use Rattle.laws.specs.Tracker.Slots.{remove-moves}
use Rattle.region.specs.declared.AccessRights.{AccessRights}
use Rattle.region.specs.declared.Way.TheVariants.{Remove}
use Rattle.tracker.specs.Walks.{remove_region}
use Rattle.decoded.specs.Tables.{tables_of}
use Rattle.refine.specs.Agrees.{Agrees}
use Rattle.refine.specs.Tracker.RecordSteps.{tracked, Held, held_moved}
use Rattle.refine.specs.Tracker.LossWalk.{lose-walks}
use Rattle.refine.specs.Tracker.MergedWalk.{tracker-fits, walked-merged}

pub remove-refines : (s : State) (d : ℕ) (x : Domain) (a : AccessRights) → Held s d x → Rising 0 x.tracker → a.start < a.end
    → Agrees (remove_region d a (tables_of s))
    (lose a.ops.0 a.start a.end x.tracker s.record_pool >>= λ w. ok (w.marks, with_record_pool w.pool (put_domain d (with_tracker w.records x) s)))
unfolding remove_region lose tracked
remove-refines s d x a h o k =
    let l = x.tracker in
    let p = s.record_pool in
    walked-merged s d x a h Remove (tracker.remove_region a.ops.0 a.start a.end l p) (answer (remove-moves a.ops.0 a.start a.end l p))
    (lose-walks s d x a k _ l p (held_moved s d x h p l (moved_none p l)) o (omega (arith, tracker-fits s d x h)))
