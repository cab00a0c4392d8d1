-- The words read are those of the slot.
use Rattle.std.proofs.Common.{refl, ◌∙◌}
use Rattle.tables.specs.Domains.{slot-loaded}
use Rattle.rows.proofs.domains.load_slot.Goals as goal

pub returns : goal.returns
returns c = c.read.ensures ∙ slot-loaded _ c.requires _ _ c.args.j _ c.slot_at.ensures refl
