-- The places below i have their marks.
use Rattle.std.proofs.Common.{◌≡◌, length}
use Rattle.tables.specs.View.{view, Left}
use Rattle.converted_words.specs.Built.{marked_to}
use Rattle.converted_words.proofs.mark_all.Given as goal

abbrev pub invariant-loop-i : goal.invariant-loop-i
invariant-loop-i l = record {
  marked : Left l.v (marked_to l.i (view l.initial.v));
  long : length l.v ≡ length l.initial.v;
}
