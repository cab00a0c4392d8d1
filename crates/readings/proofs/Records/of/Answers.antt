-- As many as the table's size, from the domain's first link on.
use Rattle.readings.proofs.Reading.{records-start}
use Rattle.readings.proofs.Records.of.Goals as goal

pub returns : goal.returns
returns c = records-start _ _ _ _ c.size.ensures c.first.ensures
