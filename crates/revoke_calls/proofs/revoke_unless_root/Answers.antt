-- By the kind.
use mathlib.Core.Path.{refl}
use borrow.Author.Tests.{eq-eqb, ne_eqb}
use Rattle.answers.specs.Then.{stays}
use Rattle.revoke_calls.specs.Calls.{revoke_unless_root}
use Rattle.revoke_calls.proofs.revoke_unless_root.Goals as goal

pub returns-then-g-eq-ROOT : goal.returns-then-g-eq-ROOT
unfolding revoke_unless_root
returns-then-g-eq-ROOT c = rw (← c.load-g.ensures, eq-eqb _ _ c.if-g-eq-ROOT.true) record { value = refl; left = stays _ c.requires }

pub returns : goal.returns
unfolding revoke_unless_root
returns c = rw (← c.load-g.ensures, ne_eqb _ _ c.if-g-eq-ROOT.false) record { value = c.revoke.ensures.value; left = c.revoke.ensures.left }
