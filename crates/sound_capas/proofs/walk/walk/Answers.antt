-- The rest of the domains from here, with the marks as they are, are the domains from the start.
use Rattle.claims.specs.Walk.{rows_start, rows-go, rows_end}
use mathlib.Core.Path.{sym, ◌∙◌}
use Rattle.sound_capas.proofs.walk.walk.Goals as goal

pub loop-d-init : goal.loop-d-init
loop-d-init c = rows_start _ _ _ _

pub domain_walk-seen-requires : goal.domain_walk-seen-requires
domain_walk-seen-requires c = record { sized = c.requires.sized; limits = c.requires.limits; p_value = c.requires.p_value }

pub loop-d-preserved : goal.loop-d-preserved
loop-d-preserved c = c.loop-d.invariant ∙ rows-go _ _ _ _ _ _ (c.loop-d-test.true) (c.domain_walk-seen.ensures)

pub returns : goal.returns
returns c = sym (c.loop-d.invariant ∙ rows_end _ _ _ _ _ (c.loop-d-test.false))
