-- The list is as long as the records.
use Rattle.readings.proofs.Reading.{list_length, min-pick}
use Rattle.readings.proofs.plan_of.Goals as goal

pub returns : goal.returns
returns c = rw (list_length, c.min.ensures, c.first.ensures, c.count-n.ensures, min-pick)
