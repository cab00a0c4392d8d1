-- By the two tests.
use mathlib.Core.Path.{refl, sym, ◌∙◌}
use Rattle.answers.specs.Then.{stays}
use borrow.Author.Tests.{eq-eqb, ne_eqb}
use borrow.Author.Rules.{rules}
use Rattle.domain.proofs.activate.notify_if.Goals as goal

pub returns-then-is_closing : goal.returns-then-is_closing
returns-then-is_closing c = rw (sym c.is_closing.ensures ∙ c.if-is_closing.true) record { value = refl; left = stays _ c.requires }

pub returns-then-marks-eq0 : goal.returns-then-marks-eq0
returns-then-marks-eq0 c = rw (sym c.is_closing.ensures ∙ c.if-is_closing.false, eq-eqb _ _ c.if-marks-eq0.true) record { value = refl; left = stays _ c.requires }

pub returns : goal.returns
returns c = rw (sym c.is_closing.ensures ∙ c.if-is_closing.false, ne_eqb _ _ c.if-marks-eq0.false) record { value = c.notify.ensures.value; left = c.notify.ensures.left }
