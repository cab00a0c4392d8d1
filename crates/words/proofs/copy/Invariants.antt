-- The first i words are those of `from`.
use Rattle.words.specs.Copies.{Begun}
use Rattle.words.proofs.copy.Given as goal

abbrev pub invariant-loop-i : goal.invariant-loop-i
invariant-loop-i l = Begun l.from l.to l.i
