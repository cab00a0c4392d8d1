-- What is lent is the pool.
use Prim.Native.Nat.{◌-◌}
use Rattle.pools.specs.Pools.{pool-read}
use Rattle.tables.specs.Tables.{Arena}
use Rattle.arena.specs.Arena.{is_free_b}
use mathlib.Core.Path.{ap, ◌∙◌}
use Rattle.pools.proofs.is_free.Goals as goal

pub returns : goal.returns
returns c = c.is_free.ensures ∙ ap (λ (x : Arena). is_free_b x c.args.i) (pool-read _ _ _ c.requires c.span_of-s.ensures)
