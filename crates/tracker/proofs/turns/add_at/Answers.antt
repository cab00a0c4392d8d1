-- By the tests in their order.
use Rattle.tracker.specs.Walks.{add_at}
use borrow.Author.Rules.{rules}
use borrow.Author.Tests.{lt-ltb, le-ltb, le-leb, lt-leb}
use Rattle.answers.specs.Then.{stays}
use Rattle.tracker.proofs.turns.add_at.Goals as goal

pub returns-then-c-q : goal.returns-then-c-q
unfolding add_at
returns-then-c-q c = rw (lt-ltb _ _ c.if-c-q.true) record { value = rw c.least.ensures at c.fill.ensures.value; left = rw c.least.ensures at c.fill.ensures.left }

pub returns-then-q-c : goal.returns-then-q-c
unfolding add_at
returns-then-q-c c = rw (le-ltb _ _ c.if-c-q.false, le-leb _ _ c.if-q-c.true) record { value = c.going.ensures; left = stays _ c.requires }

pub returns-then-q-c-2 : goal.returns-then-q-c-2
unfolding add_at
returns-then-q-c-2 c = rw (le-ltb _ _ c.if-c-q.false, lt-leb _ _ c.if-q-c.false, lt-ltb _ _ c.if-q-c-2.true) record { value = c.cut_start.ensures.value; left = c.cut_start.ensures.left }

pub returns-then-a-q : goal.returns-then-a-q
unfolding add_at
returns-then-a-q c = rw (le-ltb _ _ c.if-c-q.false, lt-leb _ _ c.if-q-c.false, le-ltb _ _ c.if-q-c-2.false, lt-ltb _ _ c.if-a-q.true) record { value = c.cut_end.ensures.value; left = c.cut_end.ensures.left }

pub returns : goal.returns
unfolding add_at
returns c = rw (le-ltb _ _ c.if-c-q.false, lt-leb _ _ c.if-q-c.false, le-ltb _ _ c.if-q-c-2.false, le-ltb _ _ c.if-a-q.false) record { value = c.raise.ensures.value; left = c.raise.ensures.left }
