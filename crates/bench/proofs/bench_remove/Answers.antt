-- The engine's step where the test holds, else nothing.
use mathlib.Core.Path.{refl, sym, ◌∙◌}
use Rattle.tables.specs.Tests.{sized-true}
use Rattle.bench.specs.Steps.{taken, refused}
use borrow.Author.Rules.{rules}
use Rattle.bench.proofs.bench_remove.Goals as goal

pub remove_capa-requires : goal.remove_capa-requires
remove_capa-requires c = sized-true _ (sym c.is_sized.ensures ∙ c.if-is_sized.true)

pub returns-then-is_sized : goal.returns-then-is_sized
returns-then-is_sized c = taken _ _ c.is_sized.ensures c.if-is_sized.true _ _ (refl) _ _ (c.remove_capa.ensures)

pub returns : goal.returns
returns c = refused _ _ c.is_sized.ensures c.if-is_sized.false _ _
