-- The ring and its marks are two of the sections, and lie in the words.
use Rattle.stored_ring.specs.Stored.{ring-found}
use native.Mathlib.Omega.{arith}
use Rattle.stored_ring.proofs.span_of.Goals as goal

pub ring_at-start-requires : goal.ring_at-start-requires
ring_at-start-requires c = rw c.read_sizes-z.ensures c.requires.limits

pub marks_at-marks-requires : goal.marks_at-marks-requires
marks_at-marks-requires c = rw c.read_sizes-z.ensures c.requires.limits

pub overflow_add-places : goal.overflow_add-places
overflow_add-places c = omega (arith, ring-found _ _ _ _ c.requires c.read_sizes-z.ensures c.ring_at-start.ensures c.marks_at-marks.ensures)

pub overflow_mul-result : goal.overflow_mul-result
overflow_mul-result c = omega (arith, ring-found _ _ _ _ c.requires c.read_sizes-z.ensures c.ring_at-start.ensures c.marks_at-marks.ensures)

pub overflow_add-result : goal.overflow_add-result
overflow_add-result c = omega (arith, ring-found _ _ _ _ c.requires c.read_sizes-z.ensures c.ring_at-start.ensures c.marks_at-marks.ensures)

pub overflow_mul-result-2 : goal.overflow_mul-result-2
overflow_mul-result-2 c = omega (arith, ring-found _ _ _ _ c.requires c.read_sizes-z.ensures c.ring_at-start.ensures c.marks_at-marks.ensures)

pub overflow_add-result-2 : goal.overflow_add-result-2
overflow_add-result-2 c = omega (arith, ring-found _ _ _ _ c.requires c.read_sizes-z.ensures c.ring_at-start.ensures c.marks_at-marks.ensures)

pub returns : goal.returns
returns c = ring-found _ _ _ _ c.requires c.read_sizes-z.ensures c.ring_at-start.ensures c.marks_at-marks.ensures
