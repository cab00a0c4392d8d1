-- The bytes stand in the part that they are copied into.
use Rattle.std.proofs.Common.{arith}
use Rattle.output.specs.Puts.{puts-copied}
use Rattle.output.proofs.bytes.Goals as goal

pub returns : goal.returns
returns c = rw c.copy_from_slice.ensures.after (puts-copied c.args.text.now c.args.n c.args.s.now _ (omega arith) c.requires)
