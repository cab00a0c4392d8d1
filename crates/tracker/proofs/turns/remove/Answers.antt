-- No record is at hand, or one.
use Rattle.tracker.specs.Walks.{remove_turn}
use borrow.Author.Tests.{eq-eqb, ne_eqb}
use mathlib.Core.Path.{refl}
use Rattle.answers.specs.Then.{stays}
use Rattle.tracker.proofs.turns.remove.Goals as goal

pub returns-then-c-eq0 : goal.returns-then-c-eq0
unfolding remove_turn
returns-then-c-eq0 c = rw (eq-eqb _ _ c.if-c-eq0.true) record { value = refl; left = stays _ c.requires }

pub returns : goal.returns
unfolding remove_turn
returns c = rw (ne_eqb _ _ c.if-c-eq0.false) record { value = rw (c.load-q.ensures, c.slot_to.ensures) at c.remove_at.ensures.value; left = rw (c.load-q.ensures, c.slot_to.ensures) at c.remove_at.ensures.left }
