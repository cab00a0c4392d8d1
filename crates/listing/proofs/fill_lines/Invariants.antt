-- The run so far and the lines of the records that are left are the whole.
use Rattle.std.proofs.Common.{◌-◌}
use Rattle.listing.proofs.Filling.{Filling}
use Rattle.readings.specs.Readings.{records_from}
use Rattle.tables.specs.View.{view}
use Rattle.listing.proofs.fill_lines.Given as goal

abbrev pub invariant-loop-n : goal.invariant-loop-n
invariant-loop-n l = Filling l.d l.n (records_from (l.records - l.n) (view l.t) l.k) l.run (records_from l.records (view l.t) l.initial.k) l.initial.run
