-- By the options.
use Rattle.send_options.specs.Options.{options_answer}
use borrow.Author.Rules.{rules}
use Rattle.send_options.proofs.check_options.Goals as goal

pub returns-in-None : goal.returns-in-None
unfolding options_answer
returns-in-None c = rw c.in-None.is

pub returns-in-Flags : goal.returns-in-Flags
unfolding options_answer
returns-in-Flags c = rw c.in-Flags.is c.check_flags.ensures

pub returns-in-Hashed : goal.returns-in-Hashed
unfolding options_answer
returns-in-Hashed c = rw c.in-Hashed.is c.check_flags-in-Hashed.ensures
