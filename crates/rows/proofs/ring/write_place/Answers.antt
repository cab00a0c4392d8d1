-- Word 6 of the header.
use Rattle.tables.specs.Header.{write-is}
use mathlib.Core.Path.{sym, ◌∙◌}
use Rattle.rows.proofs.ring.write_place.Goals as goal

pub returns : goal.returns
returns c = c.word.ensures ∙ sym (write-is _)
