-- The first i slots are written.
use Rattle.tables.specs.View.{domain_of}
use Rattle.stored_slots.specs.Rows.{Written}
use Rattle.stored_slots.proofs.write_list.Given as goal

abbrev pub invariant-loop-i : goal.invariant-loop-i
invariant-loop-i l = Written l.n (domain_of l.n l.initial.p) l.list l.i l.p
