-- The section starts where the one before it ends; the limits bound the one product.
use Rattle.sizes.specs.Tests.{domains-fit}
use Rattle.words.specs.Cuts.{offset}
use native.Mathlib.Omega.{arith}
use Rattle.sizes.proofs.regions_at.Goals as goal

pub overflow_mul-result : goal.overflow_mul-result
overflow_mul-result c = let h = rw (← c.domain_width.ensures) at (domains-fit c.args.z c.requires) in omega arith

pub overflow_add-result : goal.overflow_add-result
unfolding offset
overflow_add-result c = let h = rw (← c.domain_width.ensures) at (domains-fit c.args.z c.requires) in omega arith

pub returns : goal.returns
unfolding offset
returns c = rw c.domain_width.ensures (omega arith)
