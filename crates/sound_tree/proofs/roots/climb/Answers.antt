-- The way from j on is left to climb.
use Rattle.std.proofs.Common.{◌∙◌}
use Rattle.sound_tree.specs.Ways.{climb-turn, climb-stop}
use Rattle.sound_tree.proofs.roots.climb.Goals as goal

pub returns-then-stops_at : goal.returns-then-stops_at
returns-then-stops_at c = climb-stop _ _ _ _ c.stops_at.ensures _ _ c.loop-test.true c.if-stops_at.true ∙ c.loop.invariant

pub loop-preserved : goal.loop-preserved
loop-preserved c = climb-turn _ _ _ _ c.stops_at.ensures _ _ c.loop-test.true _ c.if-stops_at.false c.parent_of-j.ensures ∙ c.loop.invariant
