-- What comes back replaces the pool.
use Prim.Native.Nat.{◌-◌}
use Rattle.arena.specs.Arena.{new_arena}
use Rattle.pools.specs.Pools.{pool-back}
use mathlib.Core.Path.{ap, ◌∙◌}
use Rattle.pools.proofs.fresh.Goals as goal

pub returns : goal.returns
returns c = pool-back _ _ _ c.requires c.span_of-s.ensures _ _ c.fresh.auto.p (c.fresh.ensures ∙ ap new_arena c.span_of-s.ensures.slots)
