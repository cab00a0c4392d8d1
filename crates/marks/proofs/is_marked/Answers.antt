-- The bit of the word.
use mathlib.Core.Path.{ap}
use Prim.Native.Nat.{◌/◌, ◌%◌, ◌^◌}
use lib.Dec.{eqb}
use Rattle.marks.specs.Marks.{marked}
use Rattle.marks.proofs.is_marked.Goals as goal

pub returns : goal.returns
unfolding marked
returns c = ap (λ x. eqb (x / 2 ^ (c.args.i % 64) % 2) 1) c.word.ensures
