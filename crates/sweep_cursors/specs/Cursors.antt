-- The code's cursors, a place and sums, as the sweep's: what is ahead are the events from the place on.
use Rattle.std.specs.Prelude.{◌≡◌, List, ℕ, drop}
use Rattle.sweep.specs.Sweep as sweep
use Rattle.sound_events.specs.Events.{events_in}
use Rattle.sweep_cursors.specs.declared.Cursor.{Cursor}
use Rattle.sweep_cursors.specs.Sums.{counts_of, Low}

-- in the run of events p
abbrev pub cursor_in : List ℕ → Cursor → sweep.Cursor
cursor_in p c = record { sums = counts_of c.sums; ahead = drop c.place (events_in p) }

-- the code's cursor c is d
pub record At (p : List ℕ) (c : Cursor) (d : sweep.Cursor) : Type 0 where
  pub low : Low c.place c.sums
  pub is : cursor_in p c ≡ d

-- before the first event of any run
abbrev pub First : Cursor → Type 0
First c = (p : List ℕ) → At p c (sweep.cursor (events_in p))
