-- The words that are read give what is queued.
use mathlib.Core.Path.{◌∙◌}
use Rattle.domain.specs.Activate.{notify}
use Rattle.domain.proofs.activate.notify.Goals as goal

pub returns : goal.returns
unfolding notify
returns c = rw (← c.load-head.ensures, ← c.generation-generation.ensures) record { value = c.or_refused.ensures ∙ rw (c.queue_domain-queued.ensures.value); left = c.queue_domain-queued.ensures.left }
