-- Every word is 0.
use Rattle.std.proofs.Common.{arith}
use Rattle.std.proofs.lemmas.Grind.{common_steps}
use Rattle.clear_rows.specs.Clear.{head_clear}
use Rattle.clear_rows.proofs.head_clear.Goals as goal

pub returns : goal.returns
unfolding head_clear
returns c = grind (arith, common_steps)
