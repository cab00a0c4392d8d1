-- A walk has no more records than it may follow links.
use Rattle.std.proofs.Common.{inl, arith}
use Rattle.tables.specs.View.{view}
use Rattle.readings.proofs.Reading.{records_short}
use Rattle.readings.proofs.count.Goals as goal

pub count-requires-clause-fits : goal.count-requires-clause-fits
count-requires-clause-fits c = inl (omega (arith, records_short c.of.result.left (view c.of.result.t.now) c.of.result.at))
