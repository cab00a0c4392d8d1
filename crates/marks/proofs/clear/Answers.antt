-- The part that is lent comes back as zeros.
use Rattle.std.proofs.Common.{ap, ◌∙◌, arith, rules, length-take}
use Rattle.std.proofs.Math.ListN.{replicate}
use Rattle.marks.specs.Laws.{rounded, cleared, not-cleared}
use Rattle.marks.proofs.clear.Goals as goal

pub returns-then-k-w : goal.returns-then-k-w
returns-then-k-w c =
    cleared c.args.w.now c.args.n _ (c.div_ceil-k.ensures ∙ rounded c.args.n) c.fill.new.self c.if-k-w.true
    (c.fill.ensures.after (λ y h. search rules) ∙ ap (λ m. replicate m 0) (simp length-take (omega arith)))

pub returns-else-k-w : goal.returns-else-k-w
returns-else-k-w c = not-cleared c.args.w.now c.args.n _ (c.div_ceil-k.ensures ∙ rounded c.args.n) (omega (arith, c.if-k-w.false))
