-- The section of domains.
use Rattle.managers.specs.Managers.{managers-lent, place-fits}
use native.Mathlib.Omega.{arith}
use Rattle.managers.proofs.domains_of.Goals as goal

pub domains_at-requires : goal.domains_at-requires
domains_at-requires c = rw (c.read_sizes-z.ensures) c.requires.limits

pub domain_width-requires : goal.domain_width-requires
domain_width-requires c = rw (c.read_sizes-z.ensures) c.requires.limits

pub overflow_mul-z : goal.overflow_mul-z
overflow_mul-z c = omega (arith, place-fits (c.read_sizes-z.result) c.read_sizes-z.result.domains _ (rw (c.read_sizes-z.ensures) c.requires.limits) (omega arith) (c.domain_width.ensures))

pub returns : goal.returns
returns c = managers-lent _ _ _ _ _ (c.requires) (c.read_sizes-z.ensures) (c.domains_at.ensures) (c.domain_width.ensures) (c.run.ensures)
