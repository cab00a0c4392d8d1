-- The list from the link on is left to walk.
use Rattle.std.proofs.Common.{◌≡◌, ◌<◌, ◌∙◌, arith}
use Rattle.sound_tree.specs.Tree.{no_run, walked}
use Rattle.sound_tree.specs.Turns.{walk-stop}
use Rattle.sound_tree.proofs.lists.walk.Goals as goal

pub loop-link-init : goal.loop-link-init
unfolding walked
loop-link-init c =
    let h = c.default-s.ensures in
    let e : c.default-s.result ≡ no_run = λ i. record { last = h.0 i; far = h.1.0 i; carved = h.1.1 i } in
    (omega arith, rw (← c.row_in-first.ensures, e))

pub returns-then-not-child_fits : goal.returns-then-not-child_fits
returns-then-not-child_fits c =
    let k : 0 < c.loop-link.n = omega arith in
    walk-stop _ _ _ _ _ _ _ c.loop-link-test.true k c.row_in-r.ensures c.child_fits.ensures c.if-not-child_fits.true ∙ c.loop-link.invariant.1
