-- The parts stand one behind another, and by the refusal they are the line of an accepted or a refused call.
use Rattle.output.specs.Puts.{puts_then, puts-same}
use Rattle.output.specs.Lines.{call_ok, call-no}
use Rattle.output.proofs.call_line.Goals as goal

pub returns-then-y-eq0-clause-puts : goal.returns-then-y-eq0-clause-puts
returns-then-y-eq0-clause-puts c =
    puts-same (call_ok _ _ c.if-y-eq0.true) (puts_then c.decimal-a.ensures.puts (puts_then c.bytes-b.ensures (puts_then c.number-c.ensures.puts c.byte.ensures)))

pub returns-clause-puts : goal.returns-clause-puts
returns-clause-puts c =
    puts-same (call-no _ _ c.if-y-eq0.false) (puts_then c.decimal-a.ensures.puts (puts_then c.bytes-d.ensures (puts_then c.number-e.ensures.puts c.byte-2.ensures)))
