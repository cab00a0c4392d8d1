-- The check, then step after step.
use mathlib.Core.Path.{refl}
use borrow.Author.Tests.{eq-eqb, ne_eqb}
use Rattle.answers.specs.Then.{stays, on-done, on-err}
use Rattle.revoke_calls.specs.Parts.{revoker}
use Rattle.base.specs.Clauses.{value_left}
use Rattle.revoke_calls.proofs.add_revoker.Goals as goal

pub returns-then-g-eq-ROOT : goal.returns-then-g-eq-ROOT
unfolding revoker
returns-then-g-eq-ROOT c = rw (← c.load-g.ensures, eq-eqb _ _ c.if-g-eq-ROOT.true) record { value = refl; left = stays _ c.requires }

pub returns : goal.returns
unfolding revoker
returns c = rw (← c.load-g.ensures, ne_eqb _ _ c.if-g-eq-ROOT.false) (value_left (on-done _ _ _ _ (c.reserve.ensures.value, c.reserve.ensures.left) _ _ _ c.in_ok-reserve.was (rw c.generation.ensures at c.insert.ensures.value, rw c.generation.ensures at c.insert.ensures.left)))

pub returns-in_err-reserve : goal.returns-in_err-reserve
unfolding revoker
returns-in_err-reserve c = rw (← c.load-g.ensures, ne_eqb _ _ c.if-g-eq-ROOT.false) (value_left (on-err _ _ _ _ (c.reserve.ensures.value, c.reserve.ensures.left) _ c.in_err-reserve.was _ c.from_residual.ensures.1))
