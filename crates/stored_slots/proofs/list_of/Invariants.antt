-- The first i slots are read.
use Rattle.std.proofs.Common.{◌≡◌}
use Rattle.stored_slots.specs.Rows.{read_to}
use Rattle.stored_slots.proofs.list_of.Given as goal

abbrev pub invariant-loop-i : goal.invariant-loop-i
invariant-loop-i l = l.slots ≡ read_to l.p l.i
