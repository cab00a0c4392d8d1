-- The pieces of the slots that are left are all from the first slot on.
use Rattle.std.proofs.Common.{◌≡◌, ◌-◌, refl, ◌∙◌, arith}
use Rattle.sound_pieces.specs.Laid.{placed}
use Rattle.sound_pieces.specs.Walks.{slots_end, slot-named, slot-passed}
use Rattle.sound_pieces.proofs.gather.Goals as goal
use Rattle.sound_pieces.proofs.gather.Goals.{then-names, else-names}

pub loop-j-init : goal.loop-j-init
loop-j-init c =
    let all : c.args.slots - 0 ≡ c.args.slots = omega arith in
    record { long = refl; rest = rw all }

pub loop-j-preserved : goal.loop-j-preserved
loop-j-preserved c = record {
  long = omega arith;
  rest = elim c.if-names.branch [
    | then-names w ↦ rw (w.w-is, w.count-is) (slot-named _ _ _ _ _ _ _ (omega arith) _ c.row_in-x.ensures _ c.names.ensures _ w.lay_region-count.ensures w.if-names.true ∙ c.loop-j.invariant.rest)
    | else-names w ↦ rw (w.w-is, w.count-is) (slot-passed _ _ _ _ _ _ _ (omega arith) _ c.row_in-x.ensures _ c.names.ensures w.if-names.false ∙ c.loop-j.invariant.rest)
  ];
}

pub returns : goal.returns
returns c = slots_end _ _ _ _ _ _ _ (omega arith) ∙ c.loop-j.invariant.rest ∙ placed _ _
