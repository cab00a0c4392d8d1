-- The region with its generation.
use Rattle.region_calls.specs.Calls.{held_region}
use Rattle.region_calls.proofs.hold.Goals as goal

pub returns : goal.returns
unfolding held_region
returns c = record { value = rw c.generation.ensures at c.insert.ensures.value; left = rw c.generation.ensures at c.insert.ensures.left }
