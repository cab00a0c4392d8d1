-- A record is made ready, and room for its line; it is run, or is a bad one, or there is none left.
use Rattle.std.proofs.Common.{ℕ, refl, rules, arith, length-take, length-drop}
use Rattle.output.specs.Printing.{prints-room}
use Rattle.script_text.proofs.Reading.{at_none, at_ready, at_more, at-bad, at-end, at-failed, at_last}
use Rattle.promise.proofs.Reached.{leads-none, leads-then}
use Rattle.script.proofs.run_records.Goals as goal
use Rattle.script.proofs.run_records.Goals.{then-h-via-then-h, then-h-via-else-h+then-p}

pub loop-k-init : goal.loop-k-init
loop-k-init g c = (search rules, omega arith, search rules, leads-none _, λ s h. at_none _ _ _ (omega arith) h)

pub loop-k-preserved : goal.loop-k-preserved
loop-k-preserved g c =
    let m = rw c.in-Some.is at c.turn-x.ensures.n_bound.1 in
    let y = rw c.in-Some.is at c.turn-x.ensures.turns in (
      record {
        rising = omega (arith, m.1, c.ready-h.ensures.within.rising, length-take {A = ℕ}, length-drop {A = ℕ});
        inside = omega (arith, c.ready-h.ensures.within.inside, c.loop-k.invariant.2);
      },
      omega (arith, c.turn-x.ensures.n_bound.0, c.room-p.ensures.n_in_bounds_2, c.loop-k.auto.text),
      omega (arith, c.ready-h.auto.b, c.loop-k.invariant.2),
      leads-then c.loop-k.invariant.3 c.turn-x.ensures.leads,
      λ s h.
          at_more (at_ready (c.loop-k.invariant.4 s h) c.loop-k.invariant.0 c.loop-k.invariant.2 c.ready-h.ensures.within c.ready-h.auto.b c.ready-h.ensures.keeps
          (prints-room _ _ _ c.room-p.ensures.value c.room-p.ensures.n_value c.room-p.ensures.failed_value)) y (λ z. omega (arith, m.0, z)) (omega (arith, c.turn-x.ensures.n_bound.0, c.room-p.ensures.n_in_bounds_2)) c.turn-x.auto.t,
    )

pub returns-after-loop-k-clause-ran_all : goal.returns-after-loop-k-clause-ran_all
returns-after-loop-k-clause-ran_all g c = λ s h. at_last (c.loop-k.invariant.4 s h) c.loop-k-test.false

pub returns-then-h-clause-ran_all : goal.returns-then-h-clause-ran_all
returns-then-h-clause-ran_all g c = λ s h.
    let x = at_ready (c.loop-k.invariant.4 s h) c.loop-k.invariant.0 c.loop-k.invariant.2 c.ready-h.ensures.within c.ready-h.auto.b c.ready-h.ensures.keeps
    (prints-room _ _ _ c.room-p.ensures.value c.room-p.ensures.n_value c.room-p.ensures.failed_value) in
    elim c.then-h.branch [
      | then-h-via-then-h w ↦ at-end x c.ready-h.ensures.whole w.if-h.true
      | then-h-via-else-h+then-p w ↦ at-failed x w.if-p.true
    ]

pub returns-in_default-clause-leads : goal.returns-in_default-clause-leads
returns-in_default-clause-leads g c = leads-then c.loop-k.invariant.3 c.turn-x.ensures.leads

pub returns-in_default-clause-ran_all : goal.returns-in_default-clause-ran_all
returns-in_default-clause-ran_all g c = λ s h.
    at-bad (at_ready (c.loop-k.invariant.4 s h) c.loop-k.invariant.0 c.loop-k.invariant.2 c.ready-h.ensures.within c.ready-h.auto.b c.ready-h.ensures.keeps
    (prints-room _ _ _ c.room-p.ensures.value c.room-p.ensures.n_value c.room-p.ensures.failed_value)) c.ready-h.ensures.within c.ready-h.auto.b c.if-h.false (rw c.in_default.is at c.turn-x.ensures.turns) refl (omega (arith, c.turn-x.ensures.n_bound.0, c.room-p.ensures.n_in_bounds_2)) c.turn-x.auto.t _
