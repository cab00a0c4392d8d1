-- What is lent lies behind the domain's head.
use Rattle.sections.specs.Slots.{domain-place-fits, slots-are, no-slots-lent}
use Rattle.sizes.specs.declared.Sizes.{Sizes}
use mathlib.Core.Path.{ap}
use native.Mathlib.Omega.{arith}
use Rattle.sections.proofs.slots.slots_of.Goals as goal

pub domains_at-requires : goal.domains_at-requires
domains_at-requires c = rw c.read_sizes-z.ensures c.requires.limits

pub domain_width-requires : goal.domain_width-requires
domain_width-requires c = rw c.read_sizes-z.ensures c.requires.limits

pub overflow_mul-a : goal.overflow_mul-a
overflow_mul-a c = omega (arith, domain-place-fits _ _ c.args.d _ _ c.requires c.read_sizes-z.ensures c.domains_at.ensures c.domain_width.ensures c.if-d-z.true)

pub overflow_add-a : goal.overflow_add-a
overflow_add-a c = omega (arith, domain-place-fits _ _ c.args.d _ _ c.requires c.read_sizes-z.ensures c.domains_at.ensures c.domain_width.ensures c.if-d-z.true)

pub overflow_add-a-then-d-z : goal.overflow_add-a-then-d-z
overflow_add-a-then-d-z c = omega (arith, domain-place-fits _ _ c.args.d _ _ c.requires c.read_sizes-z.ensures c.domains_at.ensures c.domain_width.ensures c.if-d-z.true)

pub returns-then-d-z : goal.returns-then-d-z
returns-then-d-z c = slots-are _ _ _ _ _ c.requires c.read_sizes-z.ensures c.domains_at.ensures c.domain_width.ensures c.if-d-z.true _ c.run.ensures

pub returns-else-d-z : goal.returns-else-d-z
returns-else-d-z c = no-slots-lent _ c.requires c.args.d (omega (arith, c.if-d-z.false, ap (λ (z : Sizes). z.domains) c.read_sizes-z.ensures))
