-- The sizes fit where their total is asked.
use Rattle.std.proofs.Common.{sym, ◌∙◌}
use Rattle.sizes.specs.Limits.{limits-true}
use Rattle.replay.proofs.length_for.Goals as goal

pub total_of-requires : goal.total_of-requires
total_of-requires c = limits-true _ (sym c.limits_hold.ensures ∙ c.if-limits_hold.true)
