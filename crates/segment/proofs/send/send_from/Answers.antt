-- What is left to send from here is the whole from the start.
use Rattle.std.proofs.Common.{◌≡◌, suc, ◌-◌, ◌∙◌, arith}
use Rattle.base.specs.Clauses.{value_left}
use Rattle.answers.specs.Then.{same_step}
use Rattle.segment.specs.Walks.{send-out, send-last, send-skip, send-on, send-refused}
use Rattle.segment.proofs.send.send_from.Goals as goal

pub loop-init : goal.loop-init
loop-init c = let e : c.args.limit - 0 ≡ c.args.limit = omega arith in (c.requires, rw e)

pub move_piece-requires : goal.move_piece-requires
move_piece-requires c = c.loop.invariant.0

pub returns-then-k-eq0 : goal.returns-then-k-eq0
returns-then-k-eq0 c = value_left (same_step _ _ _ _ (send-last _ _ _ _ _ _ _ _ (c.args.limit - suc c.loop.counter) (omega arith) c.if-k-eq0.true ∙ c.loop.invariant.1) (c.move_piece.ensures.value, c.move_piece.ensures.left))

pub load-c-requires : goal.load-c-requires
load-c-requires c = c.loop.invariant.0

pub loop-preserved-then-c-ne-CARVE : goal.loop-preserved-then-c-ne-CARVE
loop-preserved-then-c-ne-CARVE c = (c.loop.invariant.0, send-skip _ _ _ _ _ _ _ _ _ (omega arith) _ c.if-k-eq0.false (c.load-c.ensures ∙ rw c.slot_to.ensures) c.if-c-ne-CARVE.true ∙ c.loop.invariant.1)

pub move_piece-requires-in-loop : goal.move_piece-requires-in-loop
move_piece-requires-in-loop c = c.loop.invariant.0

pub loop-preserved : goal.loop-preserved
loop-preserved c = (c.move_piece-in-loop.ensures.left.sized, send-on _ _ _ _ _ _ _ _ _ (omega arith) _ c.if-k-eq0.false (c.load-c.ensures ∙ rw c.slot_to.ensures) (omega arith) _ _ (c.move_piece-in-loop.ensures.value, c.move_piece-in-loop.ensures.left) _ c.in_ok-move_piece.was ∙ c.loop.invariant.1)

pub returns-in_err-move_piece : goal.returns-in_err-move_piece
returns-in_err-move_piece c = value_left (same_step _ _ _ _ c.loop.invariant.1 (send-refused _ _ _ _ _ _ _ _ (c.args.limit - suc c.loop.counter) (omega arith) _ c.if-k-eq0.false (c.load-c.ensures ∙ rw c.slot_to.ensures) (omega arith) _ _ (c.move_piece-in-loop.ensures.value, c.move_piece-in-loop.ensures.left) _ c.in_err-move_piece.was _ c.from_residual.ensures.1))

pub returns : goal.returns
returns c = value_left (same_step _ _ _ _ c.loop.invariant.1 (send-out _ _ _ _ _ _ _ _ c.loop.invariant.0 (omega arith)))
