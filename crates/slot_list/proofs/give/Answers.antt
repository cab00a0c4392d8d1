-- A slot is given where there is room and the head is free.
use Rattle.tables.specs.Zero.{slot-zero}
use Rattle.slot_list.specs.Steps.{give-some, give-occupied, give-past, give-full}
use Rattle.std.proofs.Common.{arith}
use Rattle.slot_list.proofs.give.Goals as goal
use Rattle.slot_list.proofs.give.Goals.{else-i-list-via-then-i-list+then-list+else-is_free, else-i-list-via-then-i-list+else-list, else-i-list-via-else-i-list}

pub returns-then-is_free : goal.returns-then-is_free
returns-then-is_free c = give-some _ _ _ c.slot_of-x.ensures c.is_free.ensures _ _ (omega arith) (omega arith) c.if-is_free.true (slot-zero c.default.result c.default.ensures) c.put-out.ensures

pub returns : goal.returns
returns c = elim c.else-i-list.branch [ else-i-list-via-then-i-list+then-list+else-is_free w ↦ give-occupied _ _ _ c.slot_of-x.ensures w.is_free.ensures w.if-is_free.false | else-i-list-via-then-i-list+else-list w ↦ give-full _ w.if-list.false | else-i-list-via-else-i-list w ↦ give-past _ w.if-i-list.false ]
