-- By the slot's kind.
use Rattle.tables.specs.Zero.{slot-zero}
use Rattle.slot_list.specs.Lists.{empty_slot}
use Rattle.slot_list.proofs.empty.Goals as goal

pub returns-then-is_free : goal.returns-then-is_free
unfolding empty_slot
returns-then-is_free c = rw (← c.slot_of.ensures, ← c.is_free.ensures, c.if-is_free.true)

pub returns : goal.returns
unfolding empty_slot
returns c = rw (← c.slot_of.ensures, ← c.is_free.ensures, c.if-is_free.false, c.put.ensures, slot-zero c.default.result c.default.ensures)
