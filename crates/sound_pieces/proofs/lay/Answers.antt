-- Two words where the piece starts and two where it ends, if there is anything and room for it.
use Rattle.sound_pieces.specs.Walks.{piece-in, piece-out, piece-none}
use Rattle.sound_pieces.proofs.lay.Goals as goal
use Rattle.sound_pieces.proofs.lay.Goals.{else-s-e-via-then-s-e+else-n-room, else-s-e-via-else-s-e}

pub returns-then-n-room : goal.returns-then-n-room
returns-then-n-room c = piece-in _ _ _ _ _ c.if-s-e.true c.if-n-room.true

pub returns : goal.returns
returns c = elim c.else-s-e.branch [
  | else-s-e-via-then-s-e+else-n-room w ↦ piece-out _ _ _ _ _ w.if-s-e.true w.if-n-room.false
  | else-s-e-via-else-s-e w ↦ piece-none _ _ _ _ _ w.if-s-e.false
]
