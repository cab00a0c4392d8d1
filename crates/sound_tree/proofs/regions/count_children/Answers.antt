-- The rows from i on are left to test and to count.
use Rattle.std.proofs.Common.{◌≡◌, ap, ◌∙◌, ltb, arith, rules}
use Rattle.sound_tree.specs.Tree.{one_if}
use Rattle.sound_tree.specs.Turns.{one-few, count_turn, count-stop}
use Rattle.sound_tree.proofs.regions.count_children.Goals as goal

pub returns-then-not-region_fits : goal.returns-then-not-region_fits
returns-then-not-region_fits c = count-stop _ _ _ _ _ _ _ _ c.loop-i-test.true c.row_in-g.ensures (ap (ltb 0) c.word.ensures) c.region_fits.ensures c.if-not-region_fits.true ∙ c.loop-i.invariant.1

pub loop-i-preserved : goal.loop-i-preserved
unfolding one_if
loop-i-preserved c =
    let m : c.from-many.result ≡ one_if (ltb 1 c.row_in-g.result.kind) = search rules in
    (omega (arith, one-few _ _ m), count_turn _ _ _ _ _ _ _ _ c.loop-i-test.true c.row_in-g.ensures (ap (ltb 0) c.word.ensures) c.region_fits.ensures _ c.if-not-region_fits.false m ∙ c.loop-i.invariant.1)
