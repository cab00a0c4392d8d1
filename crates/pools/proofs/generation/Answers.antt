-- What is lent is the pool.
use Prim.Native.Nat.{◌-◌}
use Rattle.pools.specs.Pools.{pool-read}
use Rattle.tables.specs.Tables.{Arena}
use lib.ListN.{get_or}
use mathlib.Core.Path.{ap, ◌∙◌}
use Rattle.pools.proofs.generation.Goals as goal

pub returns : goal.returns
returns c = c.generation.ensures ∙ ap (λ (x : Arena). get_or x.gens c.args.i 0) (pool-read _ _ _ c.requires c.span_of-s.ensures)
