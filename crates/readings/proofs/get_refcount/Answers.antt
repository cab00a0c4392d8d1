-- No record begins before address 0.
use Rattle.std.proofs.Common.{◌≡◌, arith}
use Rattle.readings.proofs.Reading.{reach-none}
use Rattle.readings.proofs.get_refcount.Goals as goal

pub returns-else-end-gt0 : goal.returns-else-end-gt0
returns-else-end-gt0 c = let z : c.args.end ≡ 0 = omega arith in rw z (reach-none _ _)
