-- The row is lent and comes back as zeros.
use Rattle.tables.specs.Domains.{domain-inside, domain-cleared, no-domain-cleared}
use native.Mathlib.Omega.{arith}
use Rattle.rows.proofs.domains.clear_domain.Goals as goal

pub domain_width-w-requires : goal.domain_width-w-requires
domain_width-w-requires c = rw c.read_sizes-z.ensures c.requires.limits

pub overflow_add-start : goal.overflow_add-start
overflow_add-start c = omega (arith, domain-inside _ c.requires _ _ _ _ c.read_sizes-z.ensures c.domain_width-w.ensures c.if-i-z.true c.place-start.ensures)

pub offset_bounds-t-start : goal.offset_bounds-t-start
offset_bounds-t-start c = omega (arith, domain-inside _ c.requires _ _ _ _ c.read_sizes-z.ensures c.domain_width-w.ensures c.if-i-z.true c.place-start.ensures)

pub slice_bounds-clear-end : goal.slice_bounds-clear-end
slice_bounds-clear-end c = omega (arith, domain-inside _ c.requires _ _ _ _ c.read_sizes-z.ensures c.domain_width-w.ensures c.if-i-z.true c.place-start.ensures)

pub returns-then-i-z : goal.returns-then-i-z
returns-then-i-z c = domain-cleared _ c.requires _ _ _ _ c.read_sizes-z.ensures c.domain_width-w.ensures _ c.if-i-z.true c.place-start.ensures c.clear.ensures

pub returns-else-i-z : goal.returns-else-i-z
returns-else-i-z c = no-domain-cleared _ c.requires _ 0 _ _ c.read_sizes-z.ensures c.domain_width-w.ensures c.if-i-z.false
