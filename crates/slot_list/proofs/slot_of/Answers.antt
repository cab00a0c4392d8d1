-- A slot of the list, or a number too large.
use Rattle.sizes.specs.Limits.{most_slots}
use Rattle.slot_list.specs.Arrays.{length-mapped}
use Rattle.slot_list.specs.Steps.{slot-here, slot-past}
use Rattle.std.proofs.Common.{◌≡◌, ◌∙◌, arith, length}
use lib.ListN.{length-take}
use Rattle.slot_list.proofs.slot_of.Goals as goal
use Rattle.slot_list.proofs.slot_of.Goals.{else-i-list-via-then-i-list+else-i-lt-MOST_SLOTS, else-i-list-via-else-i-list}

pub returns-then-i-lt-MOST_SLOTS : goal.returns-then-i-lt-MOST_SLOTS
returns-then-i-lt-MOST_SLOTS c = let n : length c.args.list.slots ≡ most_slots = search length-mapped in slot-here _ _ (omega arith) (omega arith)

pub returns-else-i-list : goal.returns-else-i-list
returns-else-i-list c = let n : length c.args.list.slots ≡ most_slots = search length-mapped in c.free_slot.ensures ∙ slot-past _ _ (elim c.else-i-list.branch [ else-i-list-via-then-i-list+else-i-lt-MOST_SLOTS w ↦ simp length-take (omega arith) | else-i-list-via-else-i-list w ↦ simp length-take (omega arith) ])
