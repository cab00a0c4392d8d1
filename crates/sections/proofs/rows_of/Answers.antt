-- The rows fill the section, each with its record alone.
use Rattle.std.proofs.Common.{◌≡◌, ℕ, ◌*◌, get_or, ap, ◌∙◌, arith}
use Rattle.words.specs.Runs.{fetched}
use Rattle.words.specs.Cuts.{offset}
use Rattle.sizes.specs.Sizes.{sizes_of, widths}
use Rattle.tables.specs.Sections.{section-inside}
use Rattle.sections.specs.Sections.{rows-lent}
use Rattle.sections.proofs.rows_of.Goals as goal

pub overflow_mul-count : goal.overflow_mul-count
overflow_mul-count g c =
    let z = sizes_of c.args.t.now in
    let filled : get_or (widths z) g.R.Row.section 0 ≡ g.R.Row.count z * g.R.Record.WIDTH = g.met.R.Row.filled z ∙ ap (λ (x : ℕ). g.R.Row.count z * x) c.requires.records_alone in
    rw (c.count.ensures, c.WIDTH.ensures, c.read_sizes-z.ensures) (omega (arith, filled, section-inside _ g.R.Row.section c.requires.sized))

pub returns : goal.returns
returns g c =
    let r = g.R.Row in
    let z = sizes_of c.args.t.now in
    let n = r.count z in
    let w = g.R.Record.WIDTH in
    let filled : get_or (widths z) r.section 0 ≡ n * w = g.met.R.Row.filled z ∙ ap (λ (x : ℕ). n * x) c.requires.records_alone in
    let start : c.start.result ≡ offset (widths z) r.section = rw c.read_sizes-z.ensures at c.start.ensures in
    let lent : c.run.result.now ≡ fetched c.args.t.now c.start.result (n * w) = rw (c.count.ensures, c.WIDTH.ensures, c.read_sizes-z.ensures) at c.run.ensures in
    rows-lent g.R.Record.of _ _ r.section n w _ _ c.requires.sized filled start lent (λ i. rw c.requires.records_alone at (g.met.R.Row.loaded _ i c.requires.sized))
