-- What the pool answers.
use Rattle.answers.specs.Then.{passed}
use Rattle.tracker_records.specs.Links.{freed_record}
use Rattle.tracker_records.proofs.links.free.Goals as goal

pub returns : goal.returns
unfolding freed_record
returns c = record { value = rw (← c.free.ensures.value, c.in_ok-free.was); left = c.free.ensures.left }

pub returns-in_err-free : goal.returns-in_err-free
unfolding freed_record
returns-in_err-free c = record { value = rw (← c.free.ensures.value, c.in_err-free.was, passed _ _ c.from_residual.ensures.1); left = c.free.ensures.left }
