-- The first i places are made.
use Rattle.std.proofs.Common.{arith, sym, ap, ◌∙◌, replicate}
use Rattle.tables.specs.Zero.{slot-zero}
use Rattle.sizes.specs.Limits.{most_slots}
use Rattle.new_domain.specs.Opened.{fresh_list}
use Rattle.new_domain.specs.Fresh.{fresh-none, fresh-next, fresh-all}
use Rattle.new_domain.proofs.fresh_list.Goals as goal

pub loop-i-init : goal.loop-i-init
loop-i-init c = ap (replicate most_slots) (slot-zero c.default-slots.result c.default-slots.ensures) ∙ sym (fresh-none c.args.n)

pub loop-i-preserved : goal.loop-i-preserved
loop-i-preserved c = rw (c.loop-i.invariant, c.fresh_slot.ensures) (fresh-next c.args.n c.loop-i.i (omega arith))

pub returns : goal.returns
unfolding fresh_list
returns c = rw (c.loop-i.invariant, fresh-all c.args.n c.loop-i.i (omega arith))
