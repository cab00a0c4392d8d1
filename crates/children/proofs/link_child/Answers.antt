-- The parent's first link, or the link of the child before.
use borrow.Author.Tests.{eq-eqb, ne_eqb}
use Rattle.children.specs.Children.{link_child}
use Rattle.children.proofs.link_child.Goals as goal

pub returns-then-prev-eq0 : goal.returns-then-prev-eq0
unfolding link_child
returns-then-prev-eq0 c = rw (eq-eqb _ _ c.if-prev-eq0.true, ← c.load-r.ensures) c.store.ensures

pub returns-else-prev-eq0 : goal.returns-else-prev-eq0
unfolding link_child
returns-else-prev-eq0 c = rw (ne_eqb _ _ c.if-prev-eq0.false, ← c.slot_to-i.ensures, ← c.load-r-else-prev-eq0.ensures) c.store-else-prev-eq0.ensures
