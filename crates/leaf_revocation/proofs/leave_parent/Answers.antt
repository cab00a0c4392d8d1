-- By the kind.
use borrow.Author.Tests.{eq-eqb, ne_eqb}
use Rattle.answers.specs.Then.{stays}
use Rattle.leaf_revocation.specs.Leaf.{leave_parent}
use Rattle.leaf_revocation.proofs.leave_parent.Goals as goal

pub returns-then-g-eq-ROOT : goal.returns-then-g-eq-ROOT
unfolding leave_parent
returns-then-g-eq-ROOT c = rw (← c.load-g.ensures, eq-eqb _ _ c.if-g-eq-ROOT.true) (stays _ c.requires)

pub returns : goal.returns
unfolding leave_parent
returns c = rw (← c.load-g.ensures, ne_eqb _ _ c.if-g-eq-ROOT.false, ← c.slot_to.ensures) c.remove_child.ensures
