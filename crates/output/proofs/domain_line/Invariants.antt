-- What puts the rest of the numbers puts the line; each number takes at most 21 bytes, with its space.
use Rattle.std.proofs.Common.{◌+◌, ◌*◌, ◌≤◌}
use Rattle.output.specs.Lines.{Begun}
use Rattle.output.proofs.domain_line.Given as goal

abbrev pub invariant-loop-i : goal.invariant-loop-i
invariant-loop-i l = (l.m ≤ l.n + 1 + 21 * l.i) × Begun l.run l.initial.text l.initial.m l.at l.i l.m l.text
