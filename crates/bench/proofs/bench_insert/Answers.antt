-- The engine's step where the test holds, else nothing.
use mathlib.Core.Path.{sym, ap, ◌∙◌}
use Rattle.tables.specs.Tests.{sized-true}
use Rattle.bench.specs.Steps.{inserted_of, taken, refused}
use borrow.Author.Rules.{rules}
use Rattle.bench.proofs.bench_insert.Goals as goal

pub insert_capa-requires : goal.insert_capa-requires
insert_capa-requires c = sized-true _ (sym c.is_sized.ensures ∙ c.if-is_sized.true)

pub returns-then-is_sized : goal.returns-then-is_sized
returns-then-is_sized c = taken _ _ c.is_sized.ensures c.if-is_sized.true _ _ (c.inserted.ensures ∙ ap inserted_of c.insert_capa.ensures.value) _ _ c.insert_capa.ensures.left

pub returns : goal.returns
returns c = refused _ _ c.is_sized.ensures c.if-is_sized.false _ _
