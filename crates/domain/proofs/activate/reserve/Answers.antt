-- The test as an answer.
use mathlib.Core.Path.{◌∙◌}
use Rattle.domain.specs.Activate.{reserve}
use borrow.Author.Rules.{rules}
use Rattle.domain.proofs.activate.reserve.Goals as goal

pub returns : goal.returns
unfolding reserve
returns c = record { value = c.or_refused.ensures ∙ rw (c.has_capacity_for-room.ensures.value); left = c.has_capacity_for-room.ensures.left }
