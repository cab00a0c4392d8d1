-- The engine's step where the test holds, else nothing.
use mathlib.Core.Path.{sym, ap, ◌∙◌}
use Rattle.tables.specs.Tests.{sized-true}
use Rattle.bench.specs.Steps.{flag_of, taken, refused}
use Rattle.bench.proofs.bench_push.Goals as goal

pub push_cleanup-requires : goal.push_cleanup-requires
push_cleanup-requires c = sized-true _ (sym c.is_sized.ensures ∙ c.if-is_sized.true)

pub returns-then-is_sized : goal.returns-then-is_sized
returns-then-is_sized c = taken _ _ c.is_sized.ensures c.if-is_sized.true _ _ (c.flag.ensures ∙ ap flag_of c.push_cleanup.ensures.value) _ _ c.push_cleanup.ensures.left

pub returns : goal.returns
returns c = refused _ _ c.is_sized.ensures c.if-is_sized.false _ _
