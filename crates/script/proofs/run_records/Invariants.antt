-- The bytes at hand stay in their run, and the text in its. Each record leads the tables on, and its line follows the others.
use Rattle.std.proofs.Common.{◌≡◌, ◌≤◌, length}
use Rattle.model.specs.State.{State}
use Rattle.model.specs.Memory.{Lent}
use Rattle.script_text.proofs.Reading.{At}
use Rattle.input.specs.Buffered.{Within}
use Rattle.promise.specs.Reached.{Leads}
use Rattle.script.proofs.run_records.Given as goal

abbrev pub invariant-loop-k : goal.invariant-loop-k
invariant-loop-k g l =
    Within l.h (length l.initial.b)
    × (l.p.n ≤ length l.initial.text)
    × (length l.b ≡ length l.initial.b)
    × Leads l.initial.t l.t
    × ((s : State) → Lent l.initial.t l.initial.w s → At s l.k l.h l.b l.t l.w l.text l.p)
