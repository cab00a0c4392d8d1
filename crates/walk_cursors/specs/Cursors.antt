-- Where a walk over a domain's records goes on.
use Rattle.std.specs.Prelude.{ℕ}
use Rattle.std.specs.Int.Bits.{bit_or}
use Rattle.std.specs.declared.ops.ControlFlow.{ControlFlow}
use Rattle.answers.specs.Answers.{Answer}
use Rattle.walk_cursors.specs.declared.Cursor.{Cursor}

-- what one turn of a walk comes to: it goes on from a cursor, or is over with the walk's answer
abbrev pub Progress : Type 0
Progress = ControlFlow Answer Cursor

-- further marks
abbrev pub noted : Cursor → ℕ → ℕ
noted c m = bit_or c.marks m

-- on to the record behind the one at hand, with the range done up to `start`
abbrev pub next_of : Cursor → ℕ → ℕ → ℕ → Cursor
next_of c k start m = record { prev = c.at; at = k; start = start; marks = noted c m }

-- the record at hand is gone
abbrev pub dropped_of : Cursor → ℕ → ℕ → Cursor
dropped_of c k m = record { prev = c.prev; at = k; start = c.start; marks = noted c m }
