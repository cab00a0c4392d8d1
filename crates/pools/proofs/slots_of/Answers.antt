-- The size that the header has for the pool.
use Prim.Native.Nat.{◌-◌}
use Rattle.arena.specs.Arena.{given}
use Rattle.sizes.specs.Sizes.{sizes_of}
use borrow.Author.Rules.{rules}
use Rattle.pools.proofs.slots_of.Goals as goal

pub returns-in-Domains : goal.returns-in-Domains
unfolding sizes_of
returns-in-Domains c = rw (c.in-Domains.is) c.size.ensures

pub returns-in-Regions : goal.returns-in-Regions
unfolding sizes_of
returns-in-Regions c = rw (c.in-Regions.is) c.size-in-Regions.ensures

pub returns-in-Records : goal.returns-in-Records
unfolding sizes_of
returns-in-Records c = rw (c.in-Records.is) c.size-in-Records.ensures
