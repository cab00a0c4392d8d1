-- The search from here finds what the search from the first child finds.
use Rattle.std.proofs.Common.{◌≡◌, ◌+◌, ◌-◌, sym, ◌∙◌, arith}
use Rattle.children.specs.Children.{find}
use Rattle.children.specs.Walks.{regions-read, find-out, find_none, find-here, find-on}
use Rattle.children.proofs.find.Goals as goal

pub loop-init : goal.loop-init
unfolding find
loop-init c =
    let all : c.size-end.result - 0 ≡ c.size-end.result = omega arith in
    rw (all, c.size-end.ensures, c.load-parent.ensures, regions-read)

pub returns-then-place-eq0 : goal.returns-then-place-eq0
returns-then-place-eq0 c = sym (find_none _ _ _ _ _ (omega arith) c.if-place-eq0.true) ∙ c.loop.invariant

pub returns-then-ends : goal.returns-then-ends
returns-then-ends c = sym (find-here _ _ _ _ _ _ _ (omega arith) c.if-place-eq0.false (c.load-r.ensures ∙ rw c.slot_to.ensures) c.ends.ensures c.if-ends.true) ∙ c.loop.invariant

pub loop-preserved : goal.loop-preserved
loop-preserved c =
    let fewer : c.size-end.result - (c.loop.counter + 1) ≡ c.size-end.result - c.loop.counter - 1 = omega arith in
    rw fewer (find-on _ _ _ _ _ _ _ (omega arith) c.if-place-eq0.false (c.load-r.ensures ∙ rw c.slot_to.ensures) c.ends.ensures c.if-ends.false ∙ c.loop.invariant)

pub returns : goal.returns
returns c = sym (find-out _ _ _ _ (omega arith)) ∙ c.loop.invariant
