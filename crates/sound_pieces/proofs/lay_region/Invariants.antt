-- The pieces that are left from here are all from the start.
use Rattle.std.proofs.Common.{◌≡◌, ◌-◌, length}
use Rattle.sections.specs.Rows.{region_in}
use Rattle.sound_pieces.specs.Pieces.{between, region_pieces}
use Rattle.sound_pieces.specs.Laid.{filled, places}
use Rattle.sound_pieces.proofs.lay_region.Given as goal

abbrev pub invariant-loop : goal.invariant-loop
invariant-loop l = record {
  long : length l.w ≡ length l.initial.w;
  rest : places (filled l.w l.count) (between (region_in l.r) (l.n - l.counter) l.g.rights l.g.end l.at l.link) ≡ places (filled l.initial.w l.initial.count) (region_pieces (region_in l.r) l.n l.i);
}
