-- What is left of the sweep from a link on is all of it.
use Rattle.tables.specs.Zero.{record-zero}
use Rattle.std.proofs.Common.{◌≡◌, ℕ, ◌+◌, ◌-◌, ◌≤◌, ◌<◌, true, false, ltb, arith, lt-ltb, le-ltb}
use borrow.Author.Tests.{not-true, not-false}
use Rattle.base.specs.Tests.{both, both-i}
use Rattle.sections.specs.Rows.{record_in}
use Rattle.sound_sweep.specs.Whole.{sweep-start, sweep-stop, sweep-fails, sweep-goes}
use Rattle.sound_sweep.proofs.sweep.Goals as goal
use Rattle.sound_sweep.proofs.sweep.Goals.{else-loop-test, then-loop-test+then-link-eq0}

more : (n k : ℕ) → 0 < n → 0 < k → both (ltb 0 n) (ltb 0 k) ≡ true
more n k h i = both-i _ _ (lt-ltb 0 n h) (lt-ltb 0 k i)

none_left : (n k : ℕ) → n ≤ 0 → both (ltb 0 n) (ltb 0 k) ≡ false
none_left n k h = rw (le-ltb 0 n h)

no-link : (n k : ℕ) → 0 < n → k ≤ 0 → both (ltb 0 n) (ltb 0 k) ≡ false
no-link n k h i = rw (lt-ltb 0 n h, le-ltb 0 k i)

pub loop-init : goal.loop-init
loop-init c =
    let all : c.args.n - 0 ≡ c.args.n = omega arith in
    rw all (sweep-start (record_in c.args.q.now) c.args.s.now c.args.e.now c.args.n c.args.first c.start-p.result c.default-last.result c.start-p.ensures (record-zero c.default-last.result c.default-last.ensures))

pub returns-then-not-b : goal.returns-then-not-b
returns-then-not-b c = sweep-fails _ _ _ _ _ _ _ _ _ c.loop.invariant (more (c.args.n - c.loop.counter) c.loop.link (omega arith) (omega arith)) _ _ c.row_in-x.ensures c.holds-b.ensures (not-true _ c.if-not-b.true)

pub loop-preserved : goal.loop-preserved
loop-preserved c =
    let fewer : c.args.n - (c.loop.counter + 1) ≡ c.args.n - c.loop.counter - 1 = omega arith in
    rw fewer (sweep-goes _ _ _ _ _ _ _ _ _ c.loop.invariant (more (c.args.n - c.loop.counter) c.loop.link (omega arith) (omega arith)) _ _ c.row_in-x.ensures c.holds-b.ensures (not-false _ c.if-not-b.false))

pub returns : goal.returns
returns c = elim c.loop-test.branch [
  | else-loop-test w ↦ sweep-stop _ _ _ _ _ _ _ _ _ c.loop.invariant (none_left (c.args.n - c.loop.counter) c.loop.link (omega (arith, w.loop-test.false))) _ c.ends.ensures
  | then-loop-test+then-link-eq0 w ↦ sweep-stop _ _ _ _ _ _ _ _ _ c.loop.invariant (no-link (c.args.n - c.loop.counter) c.loop.link (omega (arith, w.loop-test.true)) (omega (arith, w.if-link-eq0.true))) _ c.ends.ensures
]
