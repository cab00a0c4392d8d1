-- After k turns the run and the link at hand are what the first k turns make of them.
use Rattle.std.proofs.Common.{◌≡◌}
use Rattle.tables.specs.View.{view}
use Rattle.readings.specs.Listing.{link_at, run_at}
use Rattle.engine.proofs.read.mityvurno_permissions.Given as goal

abbrev pub invariant-loop-k : goal.invariant-loop-k
invariant-loop-k l = (l.at ≡ link_at (view l.t) l.p.at l.k) × (l.run ≡ run_at (view l.t) l.p.at l.initial.run l.k)
