-- What was met is counted; the marks are cleared.
use Rattle.std.proofs.Common.{arith}
use Rattle.base.specs.Ranges.{both-then, both-else}
use Rattle.list_links.specs.Reads.{slots-inside}
use Rattle.sound_lists.specs.Answers.{settled}
use Rattle.sound_lists.proofs.walks.settle.Goals as goal

pub returns-then-x : goal.returns-then-x
returns-then-x c = settled _ _ _ _ _ c.args.w.now c.count-all.ensures (both-then _ _ c.if-x.true) _ _ c.slots_of-n.ensures (omega (arith, slots-inside c.args.t.now c.args.s c.requires.sized, c.requires.w_len, c.slots_of-n.ensures)) c.clear.ensures

pub returns-else-x : goal.returns-else-x
returns-else-x c = settled _ _ _ _ _ c.args.w.now c.count-all.ensures (both-else _ _ c.if-x.false) _ _ c.slots_of-n.ensures (omega (arith, slots-inside c.args.t.now c.args.s c.requires.sized, c.requires.w_len, c.slots_of-n.ensures)) c.clear.ensures
