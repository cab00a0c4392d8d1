-- The engine's reading where the test holds, else nothing.
use mathlib.Core.Path.{sym, ◌∙◌}
use Rattle.tables.specs.Tests.{sized-true}
use Rattle.bench.specs.Trackers.{read, unread}
use borrow.Author.Rules.{rules}
use Rattle.bench.proofs.trackers.bench_refcount.Goals as goal

pub get_refcount-requires : goal.get_refcount-requires
get_refcount-requires c = sized-true _ (sym c.is_sized.ensures ∙ c.if-is_sized.true)

pub returns-then-is_sized : goal.returns-then-is_sized
returns-then-is_sized c = read _ _ c.is_sized.ensures c.if-is_sized.true c.get_refcount.ensures

pub returns : goal.returns
returns c = unread _ _ c.is_sized.ensures c.if-is_sized.false _
