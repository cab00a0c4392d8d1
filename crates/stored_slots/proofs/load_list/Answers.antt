-- What is lent is the domain's row.
use Rattle.stored_slots.specs.Record.{list_of, list_at}
use Rattle.stored_slots.specs.Rows.{row_read}
use Rattle.stored_slots.specs.Steps.{domain-there, no-list}
use mathlib.Core.Path.{ap, ◌∙◌}
use Rattle.stored_slots.proofs.load_list.Goals as goal

pub row_of-r-requires : goal.row_of-r-requires
row_of-r-requires c = record { sized = c.requires; d_bound = domain-there _ _ _ c.size.ensures c.if-d-size.true }

pub returns-then-d-size : goal.returns-then-d-size
unfolding list_at
returns-then-d-size c = c.list_of.ensures ∙ ap list_of (row_read _ _ _ c.requires (domain-there _ _ _ c.size.ensures c.if-d-size.true) c.row_of-r.ensures)

pub returns-else-d-size : goal.returns-else-d-size
returns-else-d-size c = c.no_list.ensures ∙ no-list _ _ _ c.size.ensures c.if-d-size.false
