-- The parts stand one behind another.
use Rattle.output.specs.Puts.{puts_then, puts-same}
use Rattle.output.specs.Lines.{pair_is}
use Rattle.output.proofs.pair.Goals as goal

pub returns-clause-puts : goal.returns-clause-puts
returns-clause-puts c = puts-same (pair_is _ _ _) (puts_then c.byte-a.ensures (puts_then c.number-b.ensures.puts (puts_then c.number-c.ensures.puts c.byte.ensures)))
