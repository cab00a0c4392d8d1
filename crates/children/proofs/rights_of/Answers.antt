-- A remainder by 256 is a byte.
use native.Mathlib.Omega.{arith}
use Rattle.children.proofs.rights_of.Goals as goal

pub overflow_cast-result : goal.overflow_cast-result
overflow_cast-result c = omega arith
