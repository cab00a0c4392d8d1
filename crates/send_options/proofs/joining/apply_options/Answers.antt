-- By the options.
use Rattle.tables.specs.Zero.{hash-zero}
use Rattle.answers.specs.Then.{stays}
use Rattle.send_options.specs.Joining.{apply_options}
use Rattle.send_options.proofs.joining.apply_options.Goals as goal

pub returns-in-None : goal.returns-in-None
unfolding apply_options
returns-in-None c = rw c.in-None.is (stays _ c.requires)

pub returns-in-Flags : goal.returns-in-Flags
unfolding apply_options
returns-in-Flags c = rw c.in-Flags.is (rw (hash-zero c.default.result c.default.ensures) at c.set_options.ensures)

pub returns-in-Hashed : goal.returns-in-Hashed
unfolding apply_options
returns-in-Hashed c = rw c.in-Hashed.is (rw c.hash_given.ensures at c.set_options-in-Hashed.ensures)
