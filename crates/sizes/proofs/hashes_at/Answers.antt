-- The section starts where the one before it ends.
use Rattle.sizes.specs.Tests.{domains-fit}
use Rattle.words.specs.Cuts.{offset}
use native.Mathlib.Omega.{arith}
use Rattle.sizes.proofs.hashes_at.Goals as goal

pub overflow_add-result-2 : goal.overflow_add-result-2
unfolding offset
overflow_add-result-2 c = omega (arith, domains-fit c.args.z c.requires)

pub returns : goal.returns
unfolding offset
returns c = omega arith
