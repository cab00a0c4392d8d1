-- The bytes before `rest` went out. Each write takes some of those that are left.
use Rattle.std.proofs.Common.{length}
use Rattle.output.proofs.Sending.{Going}
use Rattle.output.proofs.write_all.Given as goal

abbrev pub invariant-loop-rest : goal.invariant-loop-rest
invariant-loop-rest g l = Going (g.W.Write.contents l.initial.out) (g.W.Write.contents l.out) l.text l.rest

abbrev pub decreases-loop-rest : goal.decreases-loop-rest
decreases-loop-rest g l = length l.rest
