-- What is lent is the pool.
use Prim.Native.Nat.{◌-◌}
use Rattle.arena.specs.Arena.{live_b}
use Rattle.pools.specs.Pools.{pool-read}
use mathlib.Core.Path.{ap, ◌∙◌}
use Rattle.pools.proofs.is_live.Goals as goal

pub returns : goal.returns
returns c = c.is_live.ensures ∙ ap (λ x. live_b x c.args.h) (pool-read _ _ _ c.requires c.span_of-s.ensures)
