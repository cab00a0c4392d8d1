-- The bytes at hand stay the first, and those that came are the reader's. Each read brings a byte of the record, or is the last.
use Rattle.std.proofs.Common.{◌≡◌, ◌+◌, ◌≤◌, length}
use Rattle.input.specs.Buffered.{Within, Keeps, left}
use Rattle.input.specs.Brings.{Brings, Ended}
use Rattle.input.proofs.read_on.Given as goal

abbrev pub invariant-loop-input : goal.invariant-loop-input
invariant-loop-input g l = record {
  within : Within l.r (length l.initial.b);
  keeps : Keeps l.initial.r l.initial.b l.r l.b;
  same_start : l.r.at ≡ l.initial.r.at;
  brings : Brings (g.R.Read.remaining l.initial.input) l.initial.r l.initial.b (g.R.Read.remaining l.input) l.r l.b;
  ended : l.initial.r.at + 52 ≤ length l.initial.b → Ended l.initial.r (g.R.Read.remaining l.initial.input) → Ended l.r (g.R.Read.remaining l.input);
}

abbrev pub decreases-loop-input : goal.decreases-loop-input
decreases-loop-input g l = left l.r
