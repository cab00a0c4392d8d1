-- The rest of the slots from here, with the marks as they are, are the slots from the start.
use Rattle.capa_claims.specs.CapaClaims.{slot_claim}
use Rattle.claims.specs.Walk.{taken, walk_start, walk-go, walk_end}
use mathlib.Core.Path.{sym, ap, ◌∙◌}
use Rattle.sound_capas.proofs.walk.list_walk.Goals as goal

pub loop-j-init : goal.loop-j-init
loop-j-init c = walk_start _ _ _

pub slot_claim-c-requires : goal.slot_claim-c-requires
slot_claim-c-requires c = c.requires

pub loop-j-preserved : goal.loop-j-preserved
loop-j-preserved c = c.loop-j.invariant ∙ walk-go _ _ _ _ _ (c.loop-j-test.true) (c.take-seen.ensures ∙ ap (taken _) (c.slot_claim-c.ensures ∙ ap (slot_claim _ _) (c.row_in.ensures)))

pub returns : goal.returns
returns c = sym (c.loop-j.invariant ∙ walk_end _ _ _ _ (c.loop-j-test.false))
