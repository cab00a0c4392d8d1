-- What is left of the sweep from a link on is all of it.
use Rattle.std.proofs.Common.{◌-◌}
use Rattle.sections.specs.Rows.{record_in}
use Rattle.sweep.specs.Sweep.{sweep}
use Rattle.sound_events.specs.Events.{events_in}
use Rattle.sound_sweep.specs.Records.{chained}
use Rattle.sound_sweep.specs.Whole.{Sweeping}
use Rattle.sound_sweep.proofs.sweep.Given as goal

abbrev pub invariant-loop : goal.invariant-loop
invariant-loop l =
    Sweeping (record_in l.q) l.s l.e (sweep (chained (record_in l.q) l.n l.first) (events_in l.s) (events_in l.e)) l.p l.m l.last l.link (l.n - l.counter)
