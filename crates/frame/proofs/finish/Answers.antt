-- By the answer.
use mathlib.Core.Path.{refl}
use Rattle.frame.proofs.finish.Goals as goal

pub returns-in-Ok : goal.returns-in-Ok
returns-in-Ok c = rw (c.in-Ok.is) (refl, refl, c.clear.ensures)

pub returns-in-Err : goal.returns-in-Err
returns-in-Err c = rw (c.in-Err.is) (c.from.ensures, c.copy.ensures, c.clear-in-Err.ensures)
