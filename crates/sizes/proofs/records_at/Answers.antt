-- The section starts where the one before it ends.
use Rattle.sizes.specs.Tests.{domains-fit}
use Rattle.words.specs.Cuts.{offset}
use native.Mathlib.Omega.{arith}
use Rattle.sizes.proofs.records_at.Goals as goal

pub overflow_add-result : goal.overflow_add-result
unfolding offset
overflow_add-result c = omega (arith, domains-fit c.args.z c.requires)

pub returns : goal.returns
unfolding offset
returns c = omega arith
