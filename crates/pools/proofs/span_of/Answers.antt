-- A section lies in the words, so its end does not wrap.
use Prim.Native.Nat.{◌-◌}
use Rattle.pools.specs.Pools.{pool-at}
use borrow.Author.Rules.{rules}
use native.Mathlib.Omega.{arith}
use Rattle.pools.proofs.span_of.Goals as goal

pub overflow_mul-result : goal.overflow_mul-result
overflow_mul-result c = omega (arith, pool-at c.args.t.now c.args.q _ _ c.requires c.start_of-start.ensures c.slots_of-slots.ensures)

pub overflow_add-result : goal.overflow_add-result
overflow_add-result c = omega (arith, pool-at c.args.t.now c.args.q _ _ c.requires c.start_of-start.ensures c.slots_of-slots.ensures)

pub overflow_add-result-2 : goal.overflow_add-result-2
overflow_add-result-2 c = omega (arith, pool-at c.args.t.now c.args.q _ _ c.requires c.start_of-start.ensures c.slots_of-slots.ensures)

pub returns : goal.returns
returns c = pool-at _ _ _ _ c.requires c.start_of-start.ensures c.slots_of-slots.ensures
