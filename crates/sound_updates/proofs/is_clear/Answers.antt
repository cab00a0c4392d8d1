-- Every word is 0.
use Rattle.std.proofs.Common.{arith}
use Rattle.std.proofs.lemmas.Grind.{common_steps}
use Rattle.sound_updates.specs.Updates.{clear_b}
use Rattle.sound_updates.proofs.is_clear.Goals as goal

pub returns : goal.returns
unfolding clear_b
returns c = grind (arith, common_steps)
