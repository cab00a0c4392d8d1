-- The trackers from d on are left to walk.
use mathlib.Core.Path.{refl, ◌∙◌, ap}
use native.Mathlib.Omega.{arith}
use Rattle.sizes.specs.Sizes.{sizes_of}
use Rattle.tables.specs.View.{view, of_parts}
use Rattle.sound_lists.specs.Marks.{marks-none}
use Rattle.sound_pools.specs.Trackers.{along-start, along-end}
use Rattle.sound_pools.specs.Answers.{tracker-skip, tracker-go, tracker-few, tracker-stop}
use mathlib.Core.Bool.{not}
use Rattle.sound_pools.proofs.trackers.follow_trackers.Goals as goal
use Rattle.sound_pools.proofs.trackers.follow_trackers.Goals.{then-not-may_meet+else-not-x, else-not-may_meet}

pub loop-d-init : goal.loop-d-init
loop-d-init c = (refl, along-start _ _)

pub may_meet-requires : goal.may_meet-requires
may_meet-requires c = c.requires.sized

pub load-first-requires : goal.load-first-requires
load-first-requires c = c.requires.sized

pub follow-x-requires : goal.follow-x-requires
follow-x-requires c = record { sized = c.requires.sized; w_len = c.loop-d.invariant.0 ∙ c.requires.clean.long }

pub returns-then-not-x : goal.returns-then-not-x
unfolding view of_parts sizes_of
returns-then-not-x c = tracker-stop (view c.args.t.now) _ _ _ _ c.loop-d.invariant.1 _ _ c.size-n.ensures c.size-records.ensures c.loop-d-test.true _ c.may_meet.ensures (ap not c.if-not-may_meet.true) _ c.load-first.ensures _ _ c.follow-x.ensures c.if-not-x.true

pub overflow_add-links : goal.overflow_add-links
unfolding view of_parts sizes_of
overflow_add-links c = omega (arith, tracker-few (view c.args.t.now) _ _ _ _ c.loop-d.invariant.1 _ _ c.size-n.ensures c.size-records.ensures c.loop-d-test.true _ c.may_meet.ensures (ap not c.if-not-may_meet.true) _ c.load-first.ensures _ _ c.follow-x.ensures c.if-not-x.false (marks-none _ c.args.t.now c.args.w.now c.requires.clean))

pub loop-d-preserved : goal.loop-d-preserved
unfolding view of_parts sizes_of
loop-d-preserved c = let v = view c.args.t.now in
    elim c.if-not-may_meet.branch [
      | then-not-may_meet+else-not-x w ↦ rw (w.w-is, w.links-is) (w.follow-x.auto.w ∙ c.loop-d.invariant.0, tracker-go v _ _ _ _ c.loop-d.invariant.1 _ _ c.size-n.ensures c.size-records.ensures c.loop-d-test.true _ c.may_meet.ensures (ap not w.if-not-may_meet.true) _ w.load-first.ensures _ _ w.follow-x.ensures w.if-not-x.false)
      | else-not-may_meet w ↦ rw (w.w-is, w.links-is) (c.loop-d.invariant.0, tracker-skip v _ _ _ _ c.loop-d.invariant.1 _ _ c.size-n.ensures c.size-records.ensures c.loop-d-test.true _ c.may_meet.ensures (ap not w.if-not-may_meet.false))
    ]

pub returns : goal.returns
unfolding view of_parts sizes_of
returns c = along-end (view c.args.t.now) _ _ _ _ c.loop-d.invariant.1 (omega (arith, c.size-n.ensures, c.loop-d-test.false))
