-- The pieces that are left from here are all from the start.
use Rattle.std.proofs.Common.{◌≡◌, ◌≤◌, ◌<◌, ◌+◌, ◌-◌, ℕ, false, ltb, refl, ap, ◌∙◌, arith, lt-ltb, le-ltb}
use Rattle.base.specs.Tests.{both}
use Rattle.sound_pieces.specs.Pieces.{region_pieces}
use Rattle.sound_pieces.specs.Laid.{places}
use Rattle.sound_pieces.specs.Walks.{between-end, between-cut, between-skip}
use Rattle.sound_pieces.proofs.lay_region.Goals as goal
use Rattle.sound_pieces.proofs.lay_region.Goals.{then-c-ge-CARVE, else-c-ge-CARVE, else-loop-test, then-loop-test+then-link-eq0}

none_left : (n k : ℕ) → n ≤ 0 → both (ltb 0 n) (ltb 0 k) ≡ false
none_left n k h = rw (le-ltb 0 n h)

no-link : (n k : ℕ) → 0 < n → k ≤ 0 → both (ltb 0 n) (ltb 0 k) ≡ false
no-link n k h i = rw (lt-ltb 0 n h, le-ltb 0 k i)

pub loop-init : goal.loop-init
unfolding region_pieces
loop-init c =
    let all : c.args.n - 0 ≡ c.args.n = omega arith in
    record { long = refl; rest = rw (all, c.row_in-g.ensures) }

pub loop-preserved : goal.loop-preserved
loop-preserved c =
    let fewer : c.args.n - (c.loop.counter + 1) ≡ c.args.n - c.loop.counter - 1 = omega arith in
    let on : (0 < c.args.n - c.loop.counter) × (0 < c.loop.link) = (omega arith, omega arith) in
    record {
      long = omega arith;
      rest = elim c.if-c-ge-CARVE.branch [
        | then-c-ge-CARVE w ↦ rw (w.w-is, w.count-is, w.at-is, fewer) (between-cut _ _ _ _ _ _ _ _ _ on c.row_in-c.ensures w.if-c-ge-CARVE.true w.lay-count.ensures ∙ c.loop.invariant.rest)
        | else-c-ge-CARVE w ↦ rw (w.w-is, w.count-is, w.at-is, fewer) (between-skip _ _ _ _ _ _ _ _ on c.row_in-c.ensures w.if-c-ge-CARVE.false ∙ c.loop.invariant.rest)
      ];
    }

pub returns : goal.returns
returns c =
    let n = c.args.n - c.loop.counter in
    let out : both (ltb 0 n) (ltb 0 c.loop.link) ≡ false = elim c.loop-test.branch [
      | else-loop-test w ↦ none_left n c.loop.link (omega (arith, w.loop-test.false))
      | then-loop-test+then-link-eq0 w ↦ no-link n c.loop.link (omega (arith, w.loop-test.true)) (omega (arith, w.if-link-eq0.true))
    ] in
    c.lay.ensures ∙ ap (places _) (between-end _ _ _ _ _ _ out) ∙ c.loop.invariant.rest
