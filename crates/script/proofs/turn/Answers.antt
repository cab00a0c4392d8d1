-- A record that was run stood in the bytes at hand, led the tables on, and has the line of its answer; another one has the line of 17.
use Rattle.std.proofs.Common.{Ok, ap, ◌∙◌, arith}
use Rattle.script_text.proofs.Turns.{turns-run}
use Rattle.running.specs.Outcomes.{taken-size}
use Rattle.running.specs.Reached.{take-leads}
use Rattle.script.proofs.turn.Goals as goal

pub returns-in-Ok-Some-clause-n_bound : goal.returns-in-Ok-Some-clause-n_bound
returns-in-Ok-Some-clause-n_bound c =
    let m = taken-size _ _ _ _ _ _ _ (c.in-Ok-Some.is ∙ ap Ok c.in-Ok-Some.field-0-is) c.take.ensures in
    (c.call_line.ensures.upper_bound, (omega (arith, m.0), m.1))

pub returns-in-Ok-Some-clause-leads : goal.returns-in-Ok-Some-clause-leads
returns-in-Ok-Some-clause-leads c = take-leads _ _ _ _ _ _ (λ i. (c.shared_slice_known-1.given i).fits) c.take.ensures

pub returns-in-Ok-Some-clause-turns : goal.returns-in-Ok-Some-clause-turns
returns-in-Ok-Some-clause-turns c = turns-run _ _ _ _ _ _ _ _ _ _ _ (λ i. (c.shared_slice_known-1.given i).fits) _ (c.in-Ok-Some.is ∙ ap Ok c.in-Ok-Some.field-0-is) c.take.ensures c.call_line.ensures.puts

pub returns-in-Ok-None-clause-leads : goal.returns-in-Ok-None-clause-leads
returns-in-Ok-None-clause-leads c = take-leads _ _ _ _ _ _ (λ i. (c.shared_slice_known-1.given i).fits) c.take.ensures
