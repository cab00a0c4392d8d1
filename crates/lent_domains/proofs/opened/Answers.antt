-- By whether the opening was accepted.
use borrow.Author.Tests.{eq-eqb, ne_eqb}
use Rattle.frame.specs.Finish.{opened_for}
use Rattle.lent_domains.proofs.opened.Goals as goal

pub generation-requires : goal.generation-requires
generation-requires c = c.requires c.if-r-eq0.true

pub returns-then-r-eq0 : goal.returns-then-r-eq0
unfolding opened_for
returns-then-r-eq0 c = rw (eq-eqb _ _ (c.if-r-eq0.true), c.generation.ensures)

pub returns : goal.returns
unfolding opened_for
returns c = rw (ne_eqb _ _ (c.if-r-eq0.false)) (c.no_domain.ensures)
