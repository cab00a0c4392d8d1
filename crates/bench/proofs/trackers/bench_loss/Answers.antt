-- The engine's step where the test holds, else nothing.
use mathlib.Core.Path.{sym, ap, ◌∙◌}
use Rattle.tables.specs.Tests.{sized-true}
use Rattle.bench.specs.Steps.{taken, refused}
use Rattle.bench.specs.Trackers.{change_of}
use borrow.Author.Rules.{rules}
use Rattle.bench.proofs.trackers.bench_loss.Goals as goal

pub remove_region-requires : goal.remove_region-requires
remove_region-requires c = sized-true _ (sym c.is_sized.ensures ∙ c.if-is_sized.true)

pub returns-then-is_sized : goal.returns-then-is_sized
returns-then-is_sized c = taken _ _ c.is_sized.ensures c.if-is_sized.true _ _ (c.change.ensures ∙ ap change_of c.remove_region.ensures.value) _ _ c.remove_region.ensures.left

pub returns : goal.returns
returns c = refused _ _ c.is_sized.ensures c.if-is_sized.false _ _
