-- The field of the domain's words.
use Rattle.tracker_records.specs.Links.{first_link}
use Rattle.tracker_records.proofs.links.first.Goals as goal

pub returns : goal.returns
unfolding first_link
returns c = rw c.load-h.ensures
