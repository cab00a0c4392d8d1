-- A place that does not fit is past the end.
use Rattle.std.proofs.Common.{◌≡◌, ◌*◌, ◌-◌, ◌^◌, min, arith}
use Rattle.sections.specs.Rows.{row-read}
use Rattle.sections.proofs.row_in.Goals as goal

pub returns : goal.returns
returns g c =
    let w = g.R.Record.WIDTH in
    let e : c.saturating_mul.result ≡ min (c.args.i * w) (2 ^ 64 - 1) = rw c.WIDTH.ensures at c.saturating_mul.ensures in
    rw c.read.ensures (row-read g.R.Record.of w _ c.args.i _ (omega arith) e)
