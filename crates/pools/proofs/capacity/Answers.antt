-- What is lent is the pool.
use Prim.Native.Nat.{◌-◌}
use Rattle.arena.specs.Arena.{capacity_of}
use Rattle.pools.specs.Pools.{pool-read}
use mathlib.Core.Path.{ap, ◌∙◌}
use Rattle.pools.proofs.capacity.Goals as goal

pub returns : goal.returns
returns c = c.capacity.ensures ∙ ap capacity_of (pool-read _ _ _ c.requires c.span_of-s.ensures)
