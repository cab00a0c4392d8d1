-- The word stored is the place's mark.
use Rattle.tables.specs.Accessors.{mark-stored}
use Rattle.rows.proofs.ring.store_mark.Goals as goal

pub returns : goal.returns
returns c = mark-stored _ c.requires _ _ _ _ c.mark_at-a.ensures c.put.ensures
