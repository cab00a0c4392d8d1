-- What is left to send from here is the whole from the start.
use Rattle.std.proofs.Common.{◌≡◌, ◌-◌}
use Rattle.tables.specs.View.{view, Sized}
use Rattle.segment.specs.Regions.{send_from}
use Rattle.segment.proofs.send.send_from.Given as goal

abbrev pub invariant-loop : goal.invariant-loop
invariant-loop l = Sized l.t × (send_from l.old l.new l.rights l.end (l.limit - l.counter) l.x l.k (view l.t) ≡ send_from l.old l.new l.rights l.end l.limit l.start l.first (view l.initial.t))
