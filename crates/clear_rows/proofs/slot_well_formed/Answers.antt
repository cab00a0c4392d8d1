-- The three ways of the test.
use Rattle.std.proofs.Common.{arith}
use Rattle.std.proofs.lemmas.Grind.{common_steps}
use Rattle.clear_rows.specs.Clear.{slot_well_formed}
use Rattle.clear_rows.proofs.slot_well_formed.Goals as goal

pub returns-in-0 : goal.returns-in-0
unfolding slot_well_formed
returns-in-0 c = grind (arith, common_steps)

pub returns-in-1 : goal.returns-in-1
unfolding slot_well_formed
returns-in-1 c = grind (arith, common_steps)

pub returns-in_default : goal.returns-in_default
unfolding slot_well_formed
returns-in_default c = grind (arith, common_steps)
