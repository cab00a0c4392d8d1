-- The row comes back with the list in it.
use Rattle.stored_slots.specs.Rows.{row_back}
use Rattle.stored_slots.specs.Steps.{domain-there, not-stored}
use Rattle.stored_slots.proofs.store_list.Goals as goal

pub row_of-r-requires : goal.row_of-r-requires
row_of-r-requires c = record { sized = c.requires; d_bound = domain-there _ _ _ c.size.ensures c.if-d-size.true }

pub returns-then-d-size : goal.returns-then-d-size
returns-then-d-size c = row_back _ _ _ c.requires (domain-there _ _ _ c.size.ensures c.if-d-size.true) c.row_of-r.ensures _ _ c.write_list.auto.p c.write_list.ensures

pub returns-else-d-size : goal.returns-else-d-size
returns-else-d-size c = not-stored _ _ _ c.size.ensures _ c.requires c.if-d-size.false
