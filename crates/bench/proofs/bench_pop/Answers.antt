-- The engine's step where the test holds, else nothing.
use mathlib.Core.Path.{sym, ap, ◌∙◌}
use Rattle.tables.specs.Tests.{sized-true}
use Rattle.bench.specs.Steps.{popped_of, taken, refused}
use borrow.Author.Rules.{rules}
use Rattle.bench.proofs.bench_pop.Goals as goal

pub pop_update-requires : goal.pop_update-requires
pop_update-requires c = sized-true _ (sym c.is_sized.ensures ∙ c.if-is_sized.true)

pub returns-then-is_sized : goal.returns-then-is_sized
returns-then-is_sized c = taken _ _ c.is_sized.ensures c.if-is_sized.true _ _ (c.popped.ensures ∙ ap popped_of c.pop_update.ensures.value) _ _ c.pop_update.ensures.left

pub returns : goal.returns
returns c = refused _ _ c.is_sized.ensures c.if-is_sized.false _ _
