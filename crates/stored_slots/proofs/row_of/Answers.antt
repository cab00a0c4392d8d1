-- A domain's words are a row of their section.
use Prim.Native.Nat.{ℕ, ◌*◌}
use Rattle.stored_slots.specs.Rows.{row-found}
use Rattle.tables.specs.Rows.{rows_inside}
use mathlib.Core.Path.{sym, ap}
use native.Mathlib.Omega.{arith}
use Rattle.stored_slots.proofs.row_of.Goals as goal

pub domain_width-width-requires : goal.domain_width-width-requires
domain_width-width-requires c = rw c.read_sizes-z.ensures c.requires.sized.limits

pub domains_at-requires : goal.domains_at-requires
domains_at-requires c = rw c.read_sizes-z.ensures c.requires.sized.limits

pub row_at-start-requires : goal.row_at-start-requires
row_at-start-requires c = rows_inside _ 4 _ c.read_sizes-z.result.domains c.domain_width-width.result _ c.requires.sized c.read_sizes-z.ensures c.domains_at.ensures (ap (λ (w : ℕ). c.read_sizes-z.result.domains * w) (sym c.domain_width-width.ensures))

pub overflow_add-result : goal.overflow_add-result
overflow_add-result c = omega (arith, (row-found _ _ _ _ _ _ c.requires.sized c.requires.d_bound c.read_sizes-z.ensures c.domains_at.ensures c.domain_width-width.ensures c.row_at-start.ensures).inside)

pub returns : goal.returns
returns c = row-found _ _ _ _ _ _ c.requires.sized c.requires.d_bound c.read_sizes-z.ensures c.domains_at.ensures c.domain_width-width.ensures c.row_at-start.ensures
