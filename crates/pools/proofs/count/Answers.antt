-- What is lent is the pool.
use Prim.Native.Nat.{◌-◌}
use Rattle.pools.specs.Pools.{pool-read}
use Rattle.tables.specs.Tables.{Arena}
use Rattle.tables.specs.View.{arena_of}
use mathlib.Core.Path.{ap, ◌∙◌}
use Rattle.pools.proofs.count.Goals as goal

pub returns : goal.returns
unfolding arena_of
returns c = c.word.ensures ∙ ap (λ (x : Arena). x.count) (pool-read _ _ _ c.requires c.span_of-s.ensures)
