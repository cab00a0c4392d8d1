-- The word with its bit, which a shift by less than 64 does not lose.
use mathlib.Core.Path.{◌∙◌}
use Prim.Native.Nat.{◌/◌}
use lib.Bits.{bit_or}
use lib.ListN.{set}
use Rattle.marks.specs.Marks.{with_mark}
use Rattle.marks.specs.Laws.{shifted}
use Rattle.marks.proofs.mark.Goals as goal

pub returns : goal.returns
unfolding with_mark
returns c = c.put.ensures ∙ (λ j. set c.args.w.now (c.args.i / 64) (bit_or (c.word-x.ensures j) (shifted c.args.i j)))
