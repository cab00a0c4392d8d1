-- The search from i on, with as many rounds as are left, is the search from the read place.
use Rattle.std.proofs.Common.{refl, sym, ◌∙◌}
use borrow.Author.Tests.{eq-eqb, ne_eqb, lt-ltb, le-ltb}
use Rattle.ring_search.specs.Queueing.{place_of, place-step, place_none}
use Rattle.ring_search.proofs.place_of.Goals as goal
use Rattle.ring_search.proofs.place_of.Goals.{else-loop-test, then-loop-test+then-i-ring, then-i-ring-via-then-i-ring, then-i-ring-via-else-i-ring+then-i-ge-PLACES}

pub loop-init : goal.loop-init
unfolding place_of
loop-init c = refl

pub returns-then-names : goal.returns-then-names
returns-then-names c =
    sym (c.loop.invariant ∙ place-step _ _ _ _ _ c.loop-test.true
    ∙ simp (ne_eqb _ _ c.if-i-ring.false, lt-ltb _ _ c.if-i-ge-PLACES.false, sym c.names.ensures ∙ c.if-names.true))

pub loop-preserved : goal.loop-preserved
loop-preserved c =
    c.loop.invariant ∙ place-step _ _ _ _ _ c.loop-test.true
    ∙ simp (ne_eqb _ _ c.if-i-ring.false, lt-ltb _ _ c.if-i-ge-PLACES.false, sym c.names.ensures ∙ c.if-names.false, c.after-i.ensures)

pub returns : goal.returns
returns c = elim c.loop-test.branch [
  | else-loop-test w ↦ sym (c.loop.invariant ∙ place_none _ _ _ _ _ w.loop-test.false)
  | then-loop-test+then-i-ring w ↦
      let step = c.loop.invariant ∙ place-step _ _ _ _ _ w.loop-test.true in
      elim w.then-i-ring.branch [
        | then-i-ring-via-then-i-ring v ↦ sym (step ∙ simp (eq-eqb _ _ v.if-i-ring.true))
        | then-i-ring-via-else-i-ring+then-i-ge-PLACES v ↦ sym (step ∙ simp (ne_eqb _ _ v.if-i-ring.false, le-ltb _ _ v.if-i-ge-PLACES.true))
      ]
]
