-- The words end where the marks do.
use Rattle.sizes.specs.Tests.{domains-fit}
use Rattle.sizes.specs.Sizes.{total}
use Rattle.words.specs.Cuts.{offset}
use native.Mathlib.Omega.{arith}
use Rattle.sizes.proofs.total_of.Goals as goal

pub overflow_add-result-2 : goal.overflow_add-result-2
unfolding offset
overflow_add-result-2 c = omega (arith, domains-fit c.args.z c.requires)

pub returns : goal.returns
unfolding offset total
returns c = omega arith
