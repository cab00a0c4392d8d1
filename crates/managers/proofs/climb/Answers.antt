-- The rest of the way from here is the way from the start.
use Rattle.std.proofs.Common.{sym, ap, ◌∙◌}
use Rattle.managers.specs.Managers.{climbed, climb-none, climb-start, climb-step, climb-end}
use Rattle.managers.proofs.climb.Goals as goal

pub loop-init : goal.loop-init
loop-init c = climb-start _ _ _

pub returns-then-at-eq0 : goal.returns-then-at-eq0
returns-then-at-eq0 c = sym (c.loop.invariant ∙ ap (climbed _ _) (c.if-at-eq0.true) ∙ climb-none _ _)

pub loop-preserved : goal.loop-preserved
loop-preserved c = c.loop.invariant ∙ climb-step _ _ _ _ (c.loop-test.true) ∙ ap (climbed _ _) (sym (c.above_of-at.ensures))

pub returns : goal.returns
returns c = sym (c.loop.invariant ∙ climb-end _ _ _ _ (c.loop-test.false))
