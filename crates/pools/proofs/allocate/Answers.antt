-- What is lent is the pool, and what comes back replaces it.
use Prim.Native.Nat.{◌-◌}
use Rattle.arena.specs.Arena.{given, allocated}
use Rattle.pools.specs.Pools.{pool-read, pool-back}
use mathlib.Core.Path.{ap, ◌∙◌}
use Rattle.pools.proofs.allocate.Goals as goal

pub returns : goal.returns
returns c = let r = pool-read _ _ _ c.requires c.span_of-s.ensures in record { value = c.allocate.ensures.value ∙ ap given r; left = pool-back _ _ _ c.requires c.span_of-s.ensures _ _ c.allocate.auto.p (c.allocate.ensures.p_after ∙ ap allocated r) }
