-- What is left from domain d on is the whole, and the work area is as it was.
use Rattle.std.proofs.Common.{◌≡◌, ◌-◌}
use Rattle.tables.specs.View.{view}
use Rattle.sound_trackers.specs.Trackers.{all_hold, trackers_hold}
use Rattle.sound_trackers.proofs.trackers_hold.Given as goal

abbrev pub invariant-loop-d : goal.invariant-loop-d
invariant-loop-d l = record {
  area : l.w ≡ l.initial.w;
  rest : all_hold (view l.t) (l.z.domains - l.d) l.d ≡ trackers_hold (view l.t);
}
