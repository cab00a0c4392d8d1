-- No record is at hand, or none behind it, or both are.
use Rattle.tracker.specs.Walks.{merge_turn}
use borrow.Author.Tests.{eq-eqb, ne_eqb}
use mathlib.Core.Path.{refl}
use Rattle.answers.specs.Then.{stays}
use Rattle.tracker.proofs.turns.merge.Goals as goal

pub returns-then-c-eq0 : goal.returns-then-c-eq0
unfolding merge_turn
returns-then-c-eq0 c = rw (eq-eqb _ _ c.if-c-eq0.true) record { value = refl; left = stays _ c.requires }

pub returns-then-q-eq0 : goal.returns-then-q-eq0
unfolding merge_turn
returns-then-q-eq0 c = rw (ne_eqb _ _ c.if-c-eq0.false, ← c.slot_to.ensures, ← c.load-q.ensures, eq-eqb _ _ c.if-q-eq0.true) record { value = refl; left = stays _ c.requires }

pub returns : goal.returns
unfolding merge_turn
returns c = rw (ne_eqb _ _ c.if-c-eq0.false, ← c.slot_to.ensures, ← c.load-q.ensures, ne_eqb _ _ c.if-q-eq0.false) record { value = rw (c.load-n.ensures, c.slot_to-2.ensures) at c.merge_at.ensures.value; left = rw (c.load-n.ensures, c.slot_to-2.ensures) at c.merge_at.ensures.left }
