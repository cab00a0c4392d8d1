-- The range is done; or no record, or one, is at hand.
use Rattle.tracker.specs.Walks.{add_turn}
use borrow.Author.Tests.{eq-eqb, ne_eqb, le-leb, lt-leb}
use mathlib.Core.Path.{refl}
use Rattle.answers.specs.Then.{stays}
use Rattle.tracker.proofs.turns.add.Goals as goal

pub returns-then-a-c : goal.returns-then-a-c
unfolding add_turn
returns-then-a-c c = rw (le-leb _ _ c.if-a-c.true) record { value = refl; left = stays _ c.requires }

pub returns-then-c-eq0 : goal.returns-then-c-eq0
unfolding add_turn
returns-then-c-eq0 c = rw (lt-leb _ _ c.if-a-c.false, eq-eqb _ _ c.if-c-eq0.true) record { value = c.fill.ensures.value; left = c.fill.ensures.left }

pub returns : goal.returns
unfolding add_turn
returns c = rw (lt-leb _ _ c.if-a-c.false, ne_eqb _ _ c.if-c-eq0.false) record { value = rw (c.load-q.ensures, c.slot_to.ensures) at c.add_at.ensures.value; left = rw (c.load-q.ensures, c.slot_to.ensures) at c.add_at.ensures.left }
