-- Row i ends where the n rows do, or before: no place wraps.
use Rattle.tables.specs.Rows.{row_at}
use borrow.Author.Tests.{lt-ltb, le-ltb}
use native.Mathlib.Nat.{mul-le-mul_right}
use native.Mathlib.Omega.{arith}
use Rattle.tables.proofs.rows.row_at.Goals as goal

pub overflow_mul-result : goal.overflow_mul-result
overflow_mul-result c = omega (arith, mul-le-mul_right c.args.w c.if-i-n.true)

pub overflow_add-result : goal.overflow_add-result
overflow_add-result c = omega (arith, mul-le-mul_right c.args.w c.if-i-n.true)

pub returns-then-i-n : goal.returns-then-i-n
unfolding row_at
returns-then-i-n c = rw (lt-ltb _ _ c.if-i-n.true)

pub returns-else-i-n : goal.returns-else-i-n
unfolding row_at
returns-else-i-n c = rw (le-ltb _ _ c.if-i-n.false)
