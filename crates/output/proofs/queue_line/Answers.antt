-- By the kind it is a domain's line or a range's.
use Rattle.output.specs.Puts.{puts-same}
use Rattle.output.specs.Lines.{queue-p, queue-c}
use Rattle.output.proofs.queue_line.Goals as goal

pub returns-then-u-eq1-clause-puts : goal.returns-then-u-eq1-clause-puts
returns-then-u-eq1-clause-puts c = puts-same (queue-p _ c.if-u-eq1.true) c.pair.ensures.puts

pub returns-clause-puts : goal.returns-clause-puts
returns-clause-puts c = puts-same (queue-c _ c.if-u-eq1.false) c.pair-2.ensures.puts
