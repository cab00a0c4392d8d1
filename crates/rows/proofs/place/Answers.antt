-- The place of row i, at the start of its section.
use Rattle.std.proofs.Common.{◌∙◌}
use Rattle.tables.specs.Rows.{rows_inside}
use Rattle.rows.proofs.place.Goals as goal

pub row_at-requires : goal.row_at-requires
row_at-requires g c = rows_inside _ g.R.Row.section _ c.count.result c.stride.result _ c.requires c.read_sizes-z.ensures c.start.ensures (g.met.R.Row.filled _ ∙ rw (c.count.ensures, c.stride.ensures))
