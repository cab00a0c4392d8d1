-- The pieces of the slots that are left are all from the first slot on.
use Rattle.std.proofs.Common.{◌≡◌, ◌-◌, length}
use Rattle.sections.specs.Rows.{slot_in, region_in}
use Rattle.sound_pieces.specs.Pieces.{slots_pieces}
use Rattle.sound_pieces.specs.Laid.{filled, places}
use Rattle.sound_pieces.specs.Walks.{pool}
use Rattle.sound_pieces.proofs.gather.Given as goal

abbrev pub invariant-loop-j : goal.invariant-loop-j
invariant-loop-j l = record {
  long : length l.w ≡ length l.initial.w;
  rest : places (filled l.w l.count) (slots_pieces (pool l.links l.gens) (region_in l.r) l.n (slot_in l.s) (l.slots - l.j) l.j) ≡ places (filled l.initial.w 0) (slots_pieces (pool l.links l.gens) (region_in l.r) l.n (slot_in l.s) l.slots 0);
}
