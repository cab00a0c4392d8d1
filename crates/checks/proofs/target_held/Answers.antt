-- What the slot holds, by its kind.
use borrow.Author.Tests.{eq-eqb, ne_eqb}
use Rattle.checks.specs.Checks.{target_held}
use borrow.Author.Rules.{rules}
use Rattle.checks.proofs.target_held.Goals as goal

pub returns-then-x-eq-FREE : goal.returns-then-x-eq-FREE
unfolding target_held
returns-then-x-eq-FREE c = rw (← c.capa_at-x.ensures, eq-eqb _ _ c.if-x-eq-FREE.true)

pub returns : goal.returns
unfolding target_held
returns c = rw (← c.capa_at-x.ensures, ne_eqb _ _ c.if-x-eq-FREE.false) c.as_target.ensures
