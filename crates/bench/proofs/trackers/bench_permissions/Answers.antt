-- The engine's reading where the test holds, else nothing.
use mathlib.Core.Path.{sym, ◌∙◌}
use Rattle.tables.specs.Tests.{sized-true}
use Rattle.bench.specs.Trackers.{listed, unlisted}
use borrow.Author.Rules.{rules}
use Rattle.bench.proofs.trackers.bench_permissions.Goals as goal

pub list-requires : goal.list-requires
list-requires c = sized-true _ (sym c.is_sized.ensures ∙ c.if-is_sized.true)

pub returns-then-is_sized : goal.returns-then-is_sized
returns-then-is_sized c = listed _ _ c.is_sized.ensures c.if-is_sized.true c.list.ensures.0 _ _ _ c.list.ensures.1

pub returns : goal.returns
returns c = unlisted _ _ c.is_sized.ensures c.if-is_sized.false _ _ _
