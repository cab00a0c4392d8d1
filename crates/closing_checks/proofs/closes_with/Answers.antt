-- What is found from here is what is found from domain e.
use Rattle.std.proofs.Common.{◌≡◌, ◌+◌, ◌-◌, ◌∙◌, arith}
use Rattle.tables.specs.Header.{domains-seen}
use Rattle.closing_checks.specs.Closes.{closes_with_b}
use Rattle.closing_checks.specs.Steps.{closes-out, closes_here, closes-top, closes-on}
use Rattle.closing_checks.proofs.closes_with.Goals as goal

pub loop-init : goal.loop-init
unfolding closes_with_b
loop-init c =
    let all : c.size-end.result - 0 ≡ c.size-end.result = omega arith in
    rw (all, domains-seen c.args.t.now _ c.size-end.ensures)

pub returns-then-at-d : goal.returns-then-at-d
returns-then-at-d c = closes_here _ _ _ _ (omega arith) c.if-at-d.true ∙ c.loop.invariant

pub returns-then-head-eq0 : goal.returns-then-head-eq0
returns-then-head-eq0 c = closes-top _ _ _ _ (omega arith) _ c.if-at-d.false c.load-head.ensures c.if-head-eq0.true ∙ c.loop.invariant

pub loop-preserved : goal.loop-preserved
loop-preserved c =
    let fewer : c.size-end.result - (c.loop.counter + 1) ≡ c.size-end.result - c.loop.counter - 1 = omega arith in
    rw (fewer, c.slot_to-at.ensures) (closes-on _ _ _ _ (omega arith) _ c.if-at-d.false c.load-head.ensures c.if-head-eq0.false ∙ c.loop.invariant)

pub returns : goal.returns
returns c = closes-out _ _ _ _ (omega arith) ∙ c.loop.invariant
