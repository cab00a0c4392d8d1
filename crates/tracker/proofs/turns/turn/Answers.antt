-- Each way has its own turn.
use borrow.Author.Rules.{rules}
use Rattle.tracker.proofs.turns.turn.Goals as goal

pub returns-in-Add : goal.returns-in-Add
returns-in-Add c = rw c.in-Add.is record { value = c.add.ensures.value; left = c.add.ensures.left }

pub returns-in-Remove : goal.returns-in-Remove
returns-in-Remove c = rw c.in-Remove.is record { value = c.remove.ensures.value; left = c.remove.ensures.left }

pub returns-in-Merge : goal.returns-in-Merge
returns-in-Merge c = rw c.in-Merge.is record { value = c.merge.ensures.value; left = c.merge.ensures.left }
