-- By the test of 0, by which nothing is divided.
use native.Mathlib.Nat.{div-zero}
use borrow.Author.Rules.{rules}
use Rattle.checks.proofs.has.Goals as goal

pub returns-then-flag-eq0 : goal.returns-then-flag-eq0
returns-then-flag-eq0 c = rw (c.if-flag-eq0.true, div-zero)
