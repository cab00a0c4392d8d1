-- The engine's step where the test holds, else nothing.
use mathlib.Core.Path.{sym, ap, ◌∙◌}
use Rattle.tables.specs.Tests.{sized-true}
use Rattle.bench.specs.Steps.{flag_of, taken, refused}
use Rattle.bench.proofs.bench_queue.Goals as goal

pub queue_domain-requires : goal.queue_domain-requires
queue_domain-requires c = sized-true _ (sym c.is_sized.ensures ∙ c.if-is_sized.true)

pub returns-then-is_sized : goal.returns-then-is_sized
returns-then-is_sized c = taken _ _ c.is_sized.ensures c.if-is_sized.true _ _ (c.flag.ensures ∙ ap flag_of c.queue_domain.ensures.value) _ _ c.queue_domain.ensures.left

pub returns : goal.returns
returns c = refused _ _ c.is_sized.ensures c.if-is_sized.false _ _
