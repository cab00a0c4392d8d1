-- What is in the run so far and the words from here on are the whole.
use Rattle.std.proofs.Common.{◌-◌, ◌*◌}
use Rattle.tables.specs.View.{view}
use Rattle.bench.proofs.Listing.{Listing}
use Rattle.bench.proofs.trackers.list.Given as goal

abbrev pub invariant-loop-k : goal.invariant-loop-k
invariant-loop-k l = Listing (view l.t) (l.p.turns - l.k) l.at (3 * l.k) l.run l.p.turns l.p.at l.initial.run
