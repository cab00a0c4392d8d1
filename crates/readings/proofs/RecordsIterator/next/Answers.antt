-- No record is left, or the next one, and one less.
use Rattle.std.proofs.Common.{ap, length, arith}
use Rattle.std.proofs.lemmas.Grind.{common_steps}
use Rattle.readings.proofs.Reading.{records-end, records-none, records-more}
use Rattle.readings.proofs.RecordsIterator.next.Goals as goal
use Rattle.readings.proofs.RecordsIterator.next.Goals.{then-self-eq0-via-then-self-eq0, then-self-eq0-via-else-self-eq0+then-self-eq0-2}

pub returns-then-self-eq0-clause-steps : goal.returns-then-self-eq0-clause-steps
returns-then-self-eq0-clause-steps c = elim c.then-self-eq0.branch [
  | then-self-eq0-via-then-self-eq0 w ↦ let e = records-end _ _ _ (omega arith) in (e, e)
  | then-self-eq0-via-else-self-eq0+then-self-eq0-2 w ↦ let e = records-none _ _ _ w.if-self-eq0-2.true in (e, e)
]

pub returns-clause-steps : goal.returns-clause-steps
returns-clause-steps c = rw (c.load-q.ensures, c.slot_to.ensures) (records-more _ _ _ (omega arith) c.if-self-eq0-2.false)

pub returns-clause-goes : goal.returns-clause-goes
returns-clause-goes c =
    let e = ap length (returns-clause-steps c) in
    grind (arith, common_steps)
