-- By the two tests.
use mathlib.Core.Path.{refl, sym, ◌∙◌}
use borrow.Author.Rules.{rules}
use Rattle.answers.specs.Then.{stays}
use Rattle.close_calls.specs.Calls.{close_unless_held}
use Rattle.close_calls.proofs.close_unless_held.Goals as goal

pub returns-then-closes_root : goal.returns-then-closes_root
unfolding close_unless_held
returns-then-closes_root c = rw (sym c.closes_root.ensures ∙ c.if-closes_root.true) record { value = refl; left = stays _ c.requires }

pub returns-then-closes_running : goal.returns-then-closes_running
unfolding close_unless_held
returns-then-closes_running c = rw (sym c.closes_root.ensures ∙ c.if-closes_root.false, sym c.closes_running.ensures ∙ c.if-closes_running.true) record { value = refl; left = stays _ c.requires }

pub returns : goal.returns
unfolding close_unless_held
returns c = rw (sym c.closes_root.ensures ∙ c.if-closes_root.false, sym c.closes_running.ensures ∙ c.if-closes_running.false) record { value = c.close.ensures.value; left = c.close.ensures.left }
