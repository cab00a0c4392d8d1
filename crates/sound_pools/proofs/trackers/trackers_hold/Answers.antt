-- The walk along all trackers, then the count.
use Rattle.sound_pools.specs.Answers.{trackers-is}
use Rattle.sound_pools.proofs.trackers.trackers_hold.Goals as goal

pub returns : goal.returns
returns c = let h = trackers-is c.args.t.now c.args.w.now c.requires.clean _ _ _ _ c.follow_trackers-x.ensures c.follow_trackers-x.auto.w c.settle.ensures in record { value = h.0; w_unchanged = h.1 }
