-- The text stays in its run, and a pop leads the tables on. Whoever prints the updates that are left prints the queue; there are at most as many as places.
use Rattle.std.proofs.Common.{◌≡◌, ◌-◌, ◌≤◌, length}
use Rattle.model.specs.State.{State}
use Rattle.model.specs.Making.{script_sizes}
use Rattle.model.specs.Memory.{Lent}
use Rattle.script_text.proofs.Queue.{Left}
use Rattle.running.specs.RunScript.{ScriptTables}
use Rattle.script.proofs.list_queue.Given as goal

abbrev pub invariant-loop : goal.invariant-loop
invariant-loop g l =
    (l.q.n ≤ length l.initial.text)
    × ScriptTables l.t
    × ((s : State) → Lent l.initial.t l.initial.w s → s.sizes ≡ script_sizes → Left s.queue.items l.initial.text l.initial.q l.t l.w l.text l.q (32 - l.counter))
