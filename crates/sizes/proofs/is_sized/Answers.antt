-- The test of the limits, then of the length.
use Rattle.sizes.specs.Limits.{limits-true}
use Rattle.sizes.specs.Tests.{sized-then, sized-else}
use mathlib.Core.Path.{sym, ◌∙◌}
use Rattle.sizes.proofs.is_sized.Goals as goal

pub total_of-requires : goal.total_of-requires
total_of-requires c = limits-true _ (sym c.limits_hold.ensures ∙ c.if-limits_hold.true)

pub returns-then-limits_hold : goal.returns-then-limits_hold
returns-then-limits_hold c = sized-then _ _ _ _ c.read_sizes-z.ensures c.limits_hold.ensures c.if-limits_hold.true c.total_of.ensures

pub returns-else-limits_hold : goal.returns-else-limits_hold
returns-else-limits_hold c = c.if-limits_hold.false ∙ sized-else _ _ _ c.read_sizes-z.ensures c.limits_hold.ensures c.if-limits_hold.false
