-- No sums, and all events ahead.
use Rattle.sweep_cursors.specs.Moves.{first}
use Rattle.sweep_cursors.proofs.events.start.Goals as goal

pub returns : goal.returns
returns c = first _ c.no_sums.ensures
