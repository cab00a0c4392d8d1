-- The first i slots are as `FreeList::new` has them.
use Rattle.std.proofs.Common.{◌≡◌, length}
use Rattle.free_list.specs.Fresh.{Filled}
use Rattle.tables.specs.View.{arena_of}
use Rattle.sizes.specs.Sizes.{pool_width}
use Rattle.free_list.proofs.fresh.Given as goal

abbrev pub invariant-loop-i : goal.invariant-loop-i
invariant-loop-i l = (length l.p ≡ pool_width l.n) × Filled l.n l.i (arena_of l.n l.p)
