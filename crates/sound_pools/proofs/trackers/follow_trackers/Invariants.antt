-- The trackers from d on are left to walk.
use mathlib.Core.Path.{◌≡◌}
use lib.ListN.{length}
use Rattle.tables.specs.View.{view}
use Rattle.sound_pools.specs.Trackers.{Along}
use Rattle.sound_pools.proofs.trackers.follow_trackers.Given as goal

abbrev pub invariant-loop-d : goal.invariant-loop-d
invariant-loop-d l = (length l.w ≡ length l.initial.w) × Along (view l.t) l.initial.w l.d l.links l.w
