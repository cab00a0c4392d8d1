-- The lengths, what is built, and the test of it.
use mathlib.Core.Path.{refl}
use borrow.Author.Rules.{rules}
use Rattle.base.specs.Tests.{true-false}
use Rattle.converting.specs.Exact.{lengths_differ, not-fitting, test-said}
use Rattle.converting.proofs.converts.Goals as goal

pub returns-then-build : goal.returns-then-build
returns-then-build c = let g = c.build.ensures.v_after c.if-build.true in record { value = test-said _ _ _ _ c.if-t-v.true _ c.build.ensures.value c.if-build.true _ g _ c.admits.ensures.0; v_after = λ e. g }

pub returns-else-build : goal.returns-else-build
returns-else-build c = record { value = not-fitting _ _ _ _ c.if-t-v.true _ c.build.ensures.value c.if-build.false; v_after = λ e. absurd (true-false e refl) }

pub returns-else-t-v : goal.returns-else-t-v
returns-else-t-v c = record { value = lengths_differ _ _ _ _ c.if-t-v.false; v_after = λ e. absurd (true-false e refl) }
