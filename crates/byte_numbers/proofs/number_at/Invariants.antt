-- What was read so far are the bytes from k on.
use Rattle.std.proofs.Common.{◌≡◌, ◌+◌, ◌≤◌, take, drop, ◌-◌}
use Rattle.byte_numbers.specs.Numbers.{number}
use Rattle.byte_numbers.proofs.number_at.Given as goal

abbrev pub invariant-loop-k : goal.invariant-loop-k
invariant-loop-k g l = (l.i ≤ l.k) × (l.n ≡ number (take (l.i + g.row.N - l.k) (drop l.k l.b)))
