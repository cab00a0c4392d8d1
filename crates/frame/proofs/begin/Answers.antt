-- The copy is taken where the test admits the memory.
use mathlib.Core.Path.{sym, ◌∙◌}
use Rattle.frame.specs.Finish.{begun, kept-clear}
use borrow.Author.Rules.{rules}
use Rattle.frame.proofs.begin.Goals as goal

pub returns-then-admits : goal.returns-then-admits
returns-then-admits c = (sym (c.if-admits.true) ∙ c.admits.ensures.0, c.copy.ensures ∙ rw (c.admits.ensures.1) (begun _ _ (sym (c.admits.ensures.0) ∙ c.if-admits.true)))

pub returns : goal.returns
returns c = (sym (c.if-admits.false) ∙ c.admits.ensures.0, c.admits.ensures.1 ∙ sym (kept-clear _ _ (sym (c.admits.ensures.0) ∙ c.if-admits.false)))
