-- A record of the tables as the model has it, and whether it may stand behind another.
use Rattle.std.specs.Prelude.{Bool, not, ◌&&◌, [], ℕ, ltb, leb, if◌then◌else◌}
use Rattle.model.specs.State.{Counts, Record}
use Rattle.model.specs.Tracker.{same_counts}
use Rattle.tables.specs.declared.Region.{Region}
use Rattle.sweep.specs.Sweep as sweep
use Rattle.sweep.specs.Sweep.{formed, gap}
use Rattle.sweep_cursors.specs.Sums.{counts_from}

-- the record in slot i
abbrev pub record_from : ℕ → Region → Record
record_from i q = record { slot = i; start = q.start; end = q.end; counts = counts_from q }

-- sums alone
abbrev pub summed : Counts → sweep.Cursor
summed k = record { sums = k; ahead = [] }

-- May q stand behind b, at whose end the ends passed have the sums k?
abbrev pub follows : Record → Record → sweep.Cursor → Counts → Bool
follows b q p k = formed q && leb b.end q.start && (if ltb b.end q.start then gap q.start p (summed k) else not (same_counts b.counts q.counts))
