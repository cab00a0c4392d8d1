-- The first i words are 0.
use Rattle.std.proofs.Common.{length, replicate}
use Rattle.words.specs.Copies.{Begun}
use Rattle.words.proofs.clear.Given as goal

abbrev pub invariant-loop-i : goal.invariant-loop-i
invariant-loop-i l = Begun (replicate (length l.fn.t) 0) l.t l.i
