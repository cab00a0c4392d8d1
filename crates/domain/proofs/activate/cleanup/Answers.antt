-- The test as an answer.
use mathlib.Core.Path.{◌∙◌}
use Rattle.domain.specs.Activate.{cleanup}
use Rattle.domain.proofs.activate.cleanup.Goals as goal

pub returns : goal.returns
unfolding cleanup
returns c = record { value = c.or_refused.ensures ∙ rw (c.push_cleanup-queued.ensures.value); left = c.push_cleanup-queued.ensures.left }
