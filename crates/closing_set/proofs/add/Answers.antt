-- The bit of d, which shifting does not lose, joined to the set.
use lib.Bits.{bit_or}
use mathlib.Core.Path.{ap}
use Rattle.marks.specs.Laws.{shifted}
use Rattle.closing_set.specs.Closing.{with_closing}
use borrow.Author.Rules.{rules}
use Rattle.closing_set.proofs.add.Goals as goal

pub returns : goal.returns
unfolding with_closing
returns c = ap (λ x. bit_or x c.args.closing) (shifted c.args.d)
