-- By the tests in their order.
use Rattle.tracker.specs.Walks.{remove_at}
use borrow.Author.Rules.{rules}
use borrow.Author.Tests.{lt-ltb, le-ltb, le-leb, lt-leb}
use mathlib.Core.Path.{refl}
use Rattle.answers.specs.Then.{stays}
use Rattle.tracker.proofs.turns.remove_at.Goals as goal

pub returns-then-a-q : goal.returns-then-a-q
unfolding remove_at
returns-then-a-q c = rw (le-leb _ _ c.if-a-q.true) record { value = refl; left = stays _ c.requires }

pub returns-then-q-c : goal.returns-then-q-c
unfolding remove_at
returns-then-q-c c = rw (lt-leb _ _ c.if-a-q.false, le-leb _ _ c.if-q-c.true) record { value = c.going.ensures; left = stays _ c.requires }

pub returns-then-q-c-2 : goal.returns-then-q-c-2
unfolding remove_at
returns-then-q-c-2 c = rw (lt-leb _ _ c.if-a-q.false, lt-leb _ _ c.if-q-c.false, lt-ltb _ _ c.if-q-c-2.true) record { value = c.cut_start.ensures.value; left = c.cut_start.ensures.left }

pub returns-then-a-q-2 : goal.returns-then-a-q-2
unfolding remove_at
returns-then-a-q-2 c = rw (lt-leb _ _ c.if-a-q.false, lt-leb _ _ c.if-q-c.false, le-ltb _ _ c.if-q-c-2.false, lt-ltb _ _ c.if-a-q-2.true) record { value = c.cut_end.ensures.value; left = c.cut_end.ensures.left }

pub returns : goal.returns
unfolding remove_at
returns c = rw (lt-leb _ _ c.if-a-q.false, lt-leb _ _ c.if-q-c.false, le-ltb _ _ c.if-q-c-2.false, le-ltb _ _ c.if-a-q-2.false) record { value = c.lower.ensures.value; left = c.lower.ensures.left }
