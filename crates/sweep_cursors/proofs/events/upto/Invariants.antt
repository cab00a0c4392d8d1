-- What is left of the move from here is all of it.
use Rattle.std.proofs.Common.{◌≡◌}
use Rattle.sweep_cursors.specs.Moves.{Moving}
use Rattle.sweep_cursors.proofs.events.upto.Given as goal

abbrev pub invariant-loop-i : goal.invariant-loop-i
invariant-loop-i l = record {
  here : l.c.place ≡ l.i;
  moving : Moving l.s l.x l.initial.c l.c.place l.c.sums;
}
