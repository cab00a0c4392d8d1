-- The word fetched is the place's mark, or 0 past the end.
use Rattle.tables.specs.Accessors.{mark-loaded}
use mathlib.Core.Path.{◌∙◌}
use Rattle.rows.proofs.ring.load_mark.Goals as goal

pub returns : goal.returns
returns c = c.word.ensures ∙ mark-loaded _ c.requires _ _ c.mark_at.ensures
