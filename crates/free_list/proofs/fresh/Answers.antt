-- The first i slots are as `FreeList::new` has them.
use Rattle.std.proofs.Common.{◌+◌, ◌∙◌, arith, mod-lt}
use Rattle.arena.specs.Arena.{fresh_link}
use Rattle.arena.specs.Words.{links-many, gens-many}
use Rattle.tables.specs.View.{arena_of}
use Rattle.free_list.specs.Fresh.{filled_none, filled_more, filled-all}
use Rattle.free_list.proofs.fresh.Goals as goal

pub set_top-requires : goal.set_top-requires
set_top-requires c = c.requires

pub loop-i-init : goal.loop-i-init
loop-i-init c = (c.set_top.auto.p ∙ c.requires, filled_none _ (arena_of c.args.n c.args.p.now) _ (links-many c.args.n c.args.p.now c.requires) (gens-many c.args.n c.args.p.now c.requires) c.set_top.ensures)

pub overflow_add-next : goal.overflow_add-next
overflow_add-next c = omega arith

pub nonzero_rem-next : goal.nonzero_rem-next
nonzero_rem-next c = omega arith

pub overflow_add-next-in-loop-i : goal.overflow_add-next-in-loop-i
overflow_add-next-in-loop-i c = omega (arith, mod-lt (c.loop-i.i + 1) {m = c.args.n} (omega arith))

pub set_link-requires : goal.set_link-requires
set_link-requires c = c.loop-i.invariant.0

pub set_generation-requires : goal.set_generation-requires
set_generation-requires c = c.set_link.auto.p ∙ c.loop-i.invariant.0

pub loop-i-preserved : goal.loop-i-preserved
unfolding fresh_link
loop-i-preserved c = (c.set_generation.auto.p ∙ c.set_link.auto.p ∙ c.loop-i.invariant.0, filled_more _ _ _ _ _ c.loop-i-test.true c.loop-i.invariant.1 c.set_link.ensures c.set_generation.ensures)

pub returns : goal.returns
returns c = filled-all _ _ _ c.loop-i-test.false c.loop-i.invariant.1
