-- Each test is what its definition says.
use Rattle.std.proofs.Common.{arith}
use Rattle.std.proofs.lemmas.Grind.{common_steps}
use Rattle.sizes.specs.Limits.{limits_b}
use Rattle.sizes.proofs.limits_hold.Goals as goal

pub returns-then-within-4 : goal.returns-then-within-4
unfolding limits_b
returns-then-within-4 c = grind (arith, common_steps)

pub returns-else-within-4 : goal.returns-else-within-4
unfolding limits_b
returns-else-within-4 c = grind (arith, common_steps)
