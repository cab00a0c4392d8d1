-- The link stands in the domain or in the record before.
use Rattle.tracker_records.specs.Links.{with_next}
use borrow.Author.Tests.{eq-eqb, ne_eqb}
use Rattle.tracker_records.proofs.links.set_next.Goals as goal

pub returns-then-prev-eq0 : goal.returns-then-prev-eq0
unfolding with_next
returns-then-prev-eq0 c = rw (eq-eqb _ _ c.if-prev-eq0.true) (rw c.load-h.ensures at c.store.ensures)

pub returns-else-prev-eq0 : goal.returns-else-prev-eq0
unfolding with_next
returns-else-prev-eq0 c = rw (ne_eqb _ _ c.if-prev-eq0.false) (rw (c.bounded.ensures, c.load-q.ensures, c.slot_to-i.ensures) at c.store-else-prev-eq0.ensures)
