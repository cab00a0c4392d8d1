-- The walk, then the count; where more are in use than there are nothing is walked.
use Rattle.std.proofs.Common.{refl, arith}
use Rattle.sound_lists.specs.Answers.{stack_is, stack-not}
use Rattle.sound_lists.proofs.walks.stack_holds.Goals as goal

pub returns-then-used-n : goal.returns-then-used-n
returns-then-used-n c = record { value = stack-not c.args.t.now c.args.w.now c.requires.clean c.args.s _ _ c.slots_of-n.ensures c.top_of-top.ensures (omega (arith, c.if-used-n.true)); w_unchanged = refl }

pub returns : goal.returns
returns c = let h = stack_is c.args.t.now c.args.w.now c.requires.clean c.args.s _ _ c.slots_of-n.ensures c.top_of-top.ensures _ _ _ _ _ (omega (arith, c.if-used-n.false)) c.link_to.ensures c.follow-x.ensures c.follow-x.auto.w c.settle.ensures in record { value = h.0; w_unchanged = h.1 }
