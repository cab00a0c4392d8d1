-- A pop leads the tables on; the update that it answers is the first of those that were left.
use Rattle.std.proofs.Common.{◌≡◌, ◌+◌, ◌-◌, arith}
use Rattle.output.specs.Printing.{prints-next}
use Rattle.script_text.proofs.Queue.{left-none, left_one, left_end}
use Rattle.promise.proofs.Reached.{reached_then, pop-leads}
use Rattle.script.proofs.list_queue.Goals as goal

pub returns-then-u-eq0-clause-script_tables_2 : goal.returns-then-u-eq0-clause-script_tables_2
returns-then-u-eq0-clause-script_tables_2 g c = reached_then c.loop.invariant.1 (pop-leads c.pop-u.ensures.after)

pub returns-then-u-eq0-clause-prints : goal.returns-then-u-eq0-clause-prints
returns-then-u-eq0-clause-prints g c = λ s h e. left-none (c.loop.invariant.2 s h e) c.pop-u.ensures c.if-u-eq0.true

pub loop-preserved : goal.loop-preserved
loop-preserved g c = (
  omega (arith, c.queue_line.ensures.upper_bound, c.room-q.ensures.n_in_bounds_2, c.loop.auto.text),
  reached_then c.loop.invariant.1 (pop-leads c.pop-u.ensures.after),
  λ s h e.
      let f : 32 - c.loop.counter - 1 ≡ 32 - (c.loop.counter + 1) = omega arith in
      rw (← f)
      (left_one (c.loop.invariant.2 s h e) c.pop-u.ensures c.pop-u.auto.t c.if-u-eq0.false
      (prints-next _ _ _ c.room-q.ensures.value c.room-q.ensures.n_value c.room-q.ensures.failed_value c.queue_line.ensures.puts (omega (arith, c.queue_line.ensures.upper_bound, c.room-q.ensures.n_in_bounds_2)))),
)

pub returns-clause-prints : goal.returns-clause-prints
returns-clause-prints g c = λ s h e. left_end (c.loop.invariant.2 s h e) (omega arith)
