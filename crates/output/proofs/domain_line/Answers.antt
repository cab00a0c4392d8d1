-- What puts the rest of the numbers puts the line; each number takes at most 21 bytes, with its space.
use Rattle.std.proofs.Common.{arith}
use Rattle.output.specs.Lines.{begun_more, begun_all}
use Rattle.output.proofs.domain_line.Goals as goal

pub loop-i-preserved : goal.loop-i-preserved
loop-i-preserved c = (omega (arith, c.number-m.ensures.upper_bound), begun_more _ _ _ _ _ _ _ c.loop-i.invariant.1 c.loop-i-test.true c.word.ensures c.number-m.ensures.puts)

pub returns-clause-puts : goal.returns-clause-puts
returns-clause-puts c = begun_all _ _ _ _ _ _ _ c.loop-i.invariant.1 c.loop-i-test.false c.byte-m.ensures c.byte.ensures
