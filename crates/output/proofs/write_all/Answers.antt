-- What is written stands behind what was.
use Rattle.std.proofs.lemmas.List.{take_rest}
use Rattle.output.proofs.Sending.{going-more}
use Rattle.output.proofs.write_all.Goals as goal

pub loop-rest-preserved : goal.loop-rest-preserved
loop-rest-preserved g c = rw take_rest (going-more c.loop-rest.invariant _ c.in_ok-n.n c.in_ok-n.ensures.bytes)
