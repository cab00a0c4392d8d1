-- The calls so far, and those of the bytes that are left, are the script's. Each record takes four bytes at least, so that the bytes left fall.
use Prim.Native.Nat.{◌-◌}
use mathlib.Core.Path.{◌≡◌}
use lib.ListN.{length}
use Rattle.running.specs.BetweenRecords.{BetweenRecords}
use Rattle.running.proofs.scripts.run_records.Given as goal

abbrev pub invariant-loop-p : goal.invariant-loop-p
invariant-loop-p l = BetweenRecords l.b l.initial.t l.initial.w l.p.calls l.p.at l.t l.w × (length l.t ≡ length l.initial.t) × (length l.w ≡ length l.initial.w)

abbrev pub decreases-loop-p : goal.decreases-loop-p
decreases-loop-p l = length l.b - l.p.at
