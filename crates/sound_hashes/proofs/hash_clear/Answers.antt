-- Every word is 0.
use Rattle.std.proofs.Common.{arith}
use Rattle.std.proofs.lemmas.Grind.{common_steps}
use Rattle.sound_hashes.specs.Hashes.{hash_clear}
use Rattle.sound_hashes.proofs.hash_clear.Goals as goal

pub returns : goal.returns
unfolding hash_clear
returns c = grind (arith, common_steps)
