-- What is left of the move from here is all of it.
use Rattle.std.proofs.Common.{refl, arith}
use Rattle.sweep_cursors.specs.Moves.{move_start, move-go, move-stop, move-end}
use Rattle.sweep_cursors.proofs.events.upto.Goals as goal

pub loop-i-init : goal.loop-i-init
loop-i-init c = record { here = refl; moving = move_start c.args.s.now c.args.x c.args.c c.requires }

pub returns-then-x-s : goal.returns-then-x-s
returns-then-x-s c =
    let h = c.loop-i.invariant in
    move-stop _ _ _ _ _ h.moving (omega arith) (rw h.here c.if-x-s.true)

pub loop-i-preserved : goal.loop-i-preserved
loop-i-preserved c =
    let h = c.loop-i.invariant in
    let moved = rw h.here at (move-go _ _ _ _ _ h.moving c.raise.result (omega arith) (rw h.here c.if-x-s.false) (rw h.here c.raise.ensures)) in
    record { here = refl; moving = moved }

pub returns : goal.returns
returns c = move-end _ _ _ _ _ c.loop-i.invariant.moving (omega arith)
