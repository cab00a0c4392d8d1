-- The lists from slot i on are left to test.
use Rattle.std.proofs.Common.{◌∙◌, arith}
use Rattle.sound_tree.specs.Turns.{walked-few, lists-turn, lists-stop}
use Rattle.sound_tree.proofs.lists.lists_hold.Goals as goal

pub returns-in_default : goal.returns-in_default
returns-in_default c = lists-stop _ _ _ _ c.loop-i-test.true c.in_default.ensures ∙ c.loop-i.invariant.1

pub loop-i-preserved : goal.loop-i-preserved
loop-i-preserved c = (omega (arith, walked-few _ _ _ _ c.loop-i-test.true _ c.in-Some.ensures), lists-turn _ _ _ _ c.loop-i-test.true _ c.in-Some.ensures ∙ c.loop-i.invariant.1)
