-- The first i places are read, each with its marks.
use Rattle.std.proofs.Common.{◌≡◌}
use Rattle.stored_ring.specs.Stored.{read_to}
use Rattle.stored_ring.proofs.ring_in.Given as goal

abbrev pub invariant-loop-i : goal.invariant-loop-i
invariant-loop-i l = l.places ≡ read_to l.p l.m l.i
