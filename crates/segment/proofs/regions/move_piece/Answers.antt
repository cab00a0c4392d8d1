-- One step after the other, where the piece is not empty.
use Rattle.std.proofs.Common.{refl}
use borrow.Author.Tests.{lt-ltb, le-ltb}
use Rattle.base.specs.Clauses.{value_left}
use Rattle.answers.specs.Then.{stays, on-done, on-err}
use Rattle.segment.specs.Regions.{move_piece}
use Rattle.segment.proofs.regions.move_piece.Goals as goal

pub returns-then-x-y : goal.returns-then-x-y
unfolding move_piece
returns-then-x-y c = rw (le-ltb _ _ c.if-x-y.true) record { value = refl; left = stays _ c.requires }

pub returns : goal.returns
unfolding move_piece
returns c = rw (lt-ltb _ _ c.if-x-y.false, ← c.access-a.ensures) (value_left (on-done _ _ _ _ (c.deactivate_region.ensures.value, c.deactivate_region.ensures.left) _ _ _ c.in_ok-deactivate_region.was (c.activate_region.ensures.value, c.activate_region.ensures.left)))

pub returns-in_err-deactivate_region : goal.returns-in_err-deactivate_region
unfolding move_piece
returns-in_err-deactivate_region c = rw (lt-ltb _ _ c.if-x-y.false, ← c.access-a.ensures) (value_left (on-err _ _ _ _ (c.deactivate_region.ensures.value, c.deactivate_region.ensures.left) _ c.in_err-deactivate_region.was _ c.from_residual.ensures.1))
