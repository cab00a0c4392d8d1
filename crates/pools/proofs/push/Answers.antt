-- What is lent is the pool, and what comes back replaces it.
use Rattle.arena.specs.Arena.{answer_to, freed}
use Rattle.pools.specs.Pools.{pool-read, pool-back}
use mathlib.Core.Path.{ap, ◌∙◌}
use Rattle.pools.proofs.push.Goals as goal

pub returns : goal.returns
returns c = let r = pool-read _ _ _ c.requires c.span_of-s.ensures in record { value = c.free.ensures.value ∙ ap (λ x. answer_to x c.args.i) r; left = pool-back _ _ _ c.requires c.span_of-s.ensures _ _ c.free.auto.p (c.free.ensures.p_after ∙ ap (λ x. freed x c.args.i) r) }
