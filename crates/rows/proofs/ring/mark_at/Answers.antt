-- The place of row i, at the start and the width of its section.
use Prim.Native.Nat.{◌+◌}
use Rattle.tables.specs.Rows.{rows_inside}
use mathlib.Core.Path.{refl, ◌∙◌}
use native.Mathlib.Omega.{arith}
use Rattle.rows.proofs.ring.mark_at.Goals as goal

pub marks_at-requires : goal.marks_at-requires
marks_at-requires c = rw c.read_sizes-z.ensures c.requires.limits

pub overflow_add-z : goal.overflow_add-z
overflow_add-z c = let h = rw (← c.read_sizes-z.ensures) at c.requires.limits in omega arith

pub row_at-requires : goal.row_at-requires
row_at-requires c = rows_inside _ 10 _ (c.read_sizes-z.result.updates + 1) 1 _ c.requires c.read_sizes-z.ensures c.marks_at.ensures refl

pub returns : goal.returns
returns c = c.row_at.ensures ∙ rw (c.marks_at.ensures, c.read_sizes-z.ensures)
