-- The head is word 0 and the count word 1.
use Rattle.arena.specs.Words.{top_set}
use lib.ListN.{length-set}
use native.Mathlib.Omega.{arith}
use Rattle.arena.proofs.set_top.Goals as goal

pub bounds-p-1 : goal.bounds-p-1
bounds-p-1 c = simp length-set (omega arith)

pub returns : goal.returns
returns c = top_set _ _ c.requires _ _
