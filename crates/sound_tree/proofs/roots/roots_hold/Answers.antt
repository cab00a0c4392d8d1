-- The slots from i on are left to test, and to mark.
use Rattle.std.proofs.Common.{◌∙◌}
use Rattle.sound_tree.specs.Ways.{roots-turn, marks-turn}
use Rattle.sound_tree.proofs.roots.roots_hold.Goals as goal

pub loop-i-preserved : goal.loop-i-preserved
loop-i-preserved c = (
  roots-turn _ _ _ _ _ c.loop-i-test.true c.climb.ensures _ c.if-not-climb.false c.mark.ensures ∙ c.loop-i.invariant.0,
  marks-turn _ _ _ _ _ c.loop-i-test.true c.climb.ensures _ c.if-not-climb.false c.mark.ensures ∙ c.loop-i.invariant.1,
)
