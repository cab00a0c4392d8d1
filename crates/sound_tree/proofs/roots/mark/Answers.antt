-- The way from j on is left to mark.
use Rattle.std.proofs.Common.{◌∙◌}
use Rattle.sound_tree.specs.Ways.{mark-turn, mark-stop}
use Rattle.sound_tree.proofs.roots.mark.Goals as goal

pub returns-then-stops_at : goal.returns-then-stops_at
returns-then-stops_at c = mark-stop _ _ _ _ c.stops_at.ensures _ _ c.loop-test.true c.if-stops_at.true ∙ c.loop.invariant

pub loop-preserved : goal.loop-preserved
loop-preserved c = mark-turn _ _ _ _ c.stops_at.ensures _ _ c.loop-test.true _ _ c.if-stops_at.false c.put.ensures c.parent_of-j.ensures ∙ c.loop.invariant
