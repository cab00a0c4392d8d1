-- What is lent is the ring, and its marks.
use mathlib.Core.Path.{◌∙◌}
use Rattle.stored_ring.specs.Stored.{ring-read}
use Rattle.stored_ring.proofs.load_ring.Goals as goal

pub returns : goal.returns
returns c = c.ring_in.ensures ∙ rw (c.read_place-read.ensures, c.write_place-write.ensures) (ring-read _ _ c.requires c.span_of-s.ensures)
