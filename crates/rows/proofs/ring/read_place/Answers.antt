-- Word 5 of the header.
use Rattle.tables.specs.Header.{read_is}
use mathlib.Core.Path.{sym, ◌∙◌}
use Rattle.rows.proofs.ring.read_place.Goals as goal

pub returns : goal.returns
returns c = c.word.ensures ∙ sym (read_is _)
