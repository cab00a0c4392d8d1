-- The sizes, then both lengths; then the empty tables.
use mathlib.Core.Path.{sym, refl, ◌∙◌, ap}
use borrow.Author.Tests.{eq-eqb, ne_eqb}
use Rattle.sizes.specs.Limits.{limits-true}
use Rattle.call.specs.Arguments.{sizes}
use Rattle.lent_make.specs.Made.{sizes-refused, lengths-refused, tables-made}
use mathlib.Core.Bool.{not, true, false}
use Rattle.lent_make.proofs.make_tables.Goals as goal
use Rattle.lent_make.proofs.make_tables.Goals.{else-t-n-via-then-t-n+else-w-n, else-t-n-via-else-t-n}

pub returns-then-not-limits_hold : goal.returns-then-not-limits_hold
returns-then-not-limits_hold c = sizes-refused _ c.args.w.now _ (sizes (c.args.domains) (c.args.slots) (c.args.regions) (c.args.records) (c.args.updates)) (c.clear.ensures) _ (c.limits_hold.ensures) ((ap not c.if-not-limits_hold.true)) _ (c.from.ensures)

pub total_of-n-requires : goal.total_of-n-requires
total_of-n-requires c = limits-true _ (sym (c.limits_hold.ensures) ∙ c.if-not-limits_hold.false)

pub make_empty-requires : goal.make_empty-requires
make_empty-requires c = record { limits = limits-true _ (sym (c.limits_hold.ensures) ∙ c.if-not-limits_hold.false); t_len = c.if-t-n.true ∙ c.total_of-n.ensures }

pub returns-then-w-n : goal.returns-then-w-n
returns-then-w-n c = tables-made _ c.args.w.now _ (sizes (c.args.domains) (c.args.slots) (c.args.regions) (c.args.records) (c.args.updates)) (c.clear.ensures) _ (c.limits_hold.ensures) ((ap not c.if-not-limits_hold.false)) _ (c.total_of-n.ensures) true (rw (eq-eqb _ _ c.if-t-n.true, eq-eqb _ _ c.if-w-n.true)) refl _ (c.make_empty.ensures)

pub returns : goal.returns
returns c =
    elim c.else-t-n.branch [
      | else-t-n-via-then-t-n+else-w-n w ↦ lengths-refused _ c.args.w.now _ (sizes (c.args.domains) (c.args.slots) (c.args.regions) (c.args.records) (c.args.updates)) (c.clear.ensures) _ (c.limits_hold.ensures) ((ap not c.if-not-limits_hold.false)) _ (c.total_of-n.ensures) false (rw (eq-eqb _ _ w.if-t-n.true, ne_eqb _ _ w.if-w-n.false)) refl _ (c.from-2.ensures)
      | else-t-n-via-else-t-n w ↦ lengths-refused _ c.args.w.now _ (sizes (c.args.domains) (c.args.slots) (c.args.regions) (c.args.records) (c.args.updates)) (c.clear.ensures) _ (c.limits_hold.ensures) ((ap not c.if-not-limits_hold.false)) _ (c.total_of-n.ensures) false (rw (ne_eqb _ _ w.if-t-n.false)) refl _ (c.from-2.ensures)
    ]
