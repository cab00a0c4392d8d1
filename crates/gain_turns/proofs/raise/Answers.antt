-- The raised record is stored.
use Rattle.gain_turns.specs.Turns.{raise_turn}
use mathlib.Core.Path.{◌∙◌}
use Rattle.gain_turns.proofs.raise.Goals as goal

pub returns : goal.returns
unfolding raise_turn
returns c = record { value = c.going.ensures ∙ rw (c.crossings.ensures, c.increase-p.ensures); left = rw (c.increase-p.ensures, c.slot_to.ensures) at c.store.ensures }
