-- By the slot's kind.
use Rattle.slot_list.specs.Lists.{take_slot}
use borrow.Author.Rules.{rules}
use Rattle.slot_list.proofs.take.Goals as goal

pub returns-then-is_free : goal.returns-then-is_free
unfolding take_slot
returns-then-is_free c = rw (← c.slot_of.ensures, ← c.is_free.ensures, c.if-is_free.true)

pub returns : goal.returns
unfolding take_slot
returns c = rw (← c.slot_of.ensures, ← c.is_free.ensures, c.if-is_free.false, c.less_one.ensures, c.put-out.ensures, c.free_slot.ensures)
