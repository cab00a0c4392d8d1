-- Made where the sizes fit, else nothing.
use mathlib.Core.Path.{sym, ◌∙◌}
use Rattle.sizes.specs.Limits.{limits-true}
use Rattle.bench.specs.Steps.{now-made, too_large, other_length}
use borrow.Author.Rules.{rules}
use Rattle.bench.proofs.bench_make.Goals as goal

pub total_of-requires : goal.total_of-requires
total_of-requires c = limits-true _ (sym c.limits_hold.ensures ∙ c.if-limits_hold.true)

pub make_empty-requires : goal.make_empty-requires
make_empty-requires c = record { limits = limits-true _ (sym c.limits_hold.ensures ∙ c.if-limits_hold.true); t_len = c.if-t-total_of.true ∙ c.total_of.ensures }

pub returns-then-t-total_of : goal.returns-then-t-total_of
returns-then-t-total_of c = now-made _ _ _ c.limits_hold.ensures c.if-limits_hold.true (c.if-t-total_of.true ∙ c.total_of.ensures) _ c.make_empty.ensures

pub returns-else-t-total_of : goal.returns-else-t-total_of
returns-else-t-total_of c = other_length _ _ _ c.limits_hold.ensures c.if-limits_hold.true (λ e. c.if-t-total_of.false (e ∙ sym c.total_of.ensures))

pub returns-else-limits_hold : goal.returns-else-limits_hold
returns-else-limits_hold c = too_large _ _ _ c.limits_hold.ensures c.if-limits_hold.false
