-- As many as the count leaves.
use Rattle.arena.specs.Arena.{capacity_of}
use Rattle.arena.specs.Words.{links-many}
use Rattle.tables.specs.View.{arena_of}
use Rattle.arena.proofs.capacity.Goals as goal

pub returns : goal.returns
unfolding capacity_of arena_of
returns c = rw (links-many _ _ c.requires, c.saturating_sub.ensures, c.size-count.ensures)
