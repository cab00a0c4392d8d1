-- The bit of d.
use mathlib.Core.Path.{refl}
use Rattle.closing_set.specs.Closing.{closing_b}
use borrow.Author.Rules.{rules}
use Rattle.closing_set.proofs.is_closing.Goals as goal

pub returns : goal.returns
unfolding closing_b
returns c = refl
