-- The words fetched are those of the record, or none.
use Rattle.std.proofs.Common.{◌≡◌, sym, ap, ◌∙◌}
use Rattle.words.specs.Runs.{fetched, none-fetched}
use Rattle.rows.proofs.read.Goals as goal

pub returns-else-q-WIDTH : goal.returns-else-q-WIDTH
returns-else-q-WIDTH g c =
    let r = g.R.Record in
    let e : c.run-q.result.now ≡ fetched c.args.p.now c.args.a r.WIDTH = rw c.WIDTH.ensures at c.run-q.ensures in
    g.met.R.Record.none _ c.default.ensures ∙ ap r.of (sym (none-fetched _ _ r.WIDTH _ e (rw c.WIDTH-2.ensures at c.if-q-WIDTH.false)) ∙ e)
