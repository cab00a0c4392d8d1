-- The sizes fit where tables are made.
use Rattle.std.proofs.Common.{sym, ◌∙◌}
use Rattle.sizes.specs.Limits.{limits-true}
use Rattle.replay.proofs.make.Goals as goal

pub total_of-requires : goal.total_of-requires
total_of-requires c = limits-true _ (sym c.limits_hold.ensures ∙ c.if-limits_hold.true)

pub make_empty-requires-clause-limits : goal.make_empty-requires-clause-limits
make_empty-requires-clause-limits c = limits-true _ (sym c.limits_hold.ensures ∙ c.if-limits_hold.true)
