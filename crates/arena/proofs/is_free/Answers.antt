-- A free slot has a link.
use Rattle.arena.specs.Arena.{is_free_b}
use Rattle.arena.proofs.is_free.Goals as goal

pub returns : goal.returns
unfolding is_free_b
returns c = rw c.link.ensures
