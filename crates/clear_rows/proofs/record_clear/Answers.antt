-- Every word is 0.
use Rattle.std.proofs.Common.{arith}
use Rattle.std.proofs.lemmas.Grind.{common_steps}
use Rattle.clear_rows.specs.Clear.{record_clear}
use Rattle.clear_rows.proofs.record_clear.Goals as goal

pub returns : goal.returns
unfolding record_clear
returns c = grind (arith, common_steps)
