-- A pool's links and generations are what is lent of its section behind the head and the count.
use Rattle.std.specs.Prelude.{◌≡◌, List, ℕ, ◌+◌, ◌-◌, ◌≤◌, take, drop}
use Rattle.std.proofs.Math.Path.{sym, ap}
use Rattle.std.proofs.Common.{◌∙◌}
use native.Mathlib.Omega.{arith}
use Rattle.words.specs.Runs.{part, part-part, fetched, fetched-in}
use Rattle.tables.specs.Tables.{Arena}
use Rattle.tables.specs.View.{view, Sized, arena_of}
use Rattle.pools.specs.declared.Pool.{Pool}
use Rattle.pools.specs.declared.Span.{Span}
use Rattle.pools.specs.Pools.{pool_of, PoolAt, pool-read}

module _ (t : List ℕ) (q : Pool) (r : Span) (s : Sized t) (at : PoolAt t q r) where
  -- n words from o on of the pool's words
  within : (o n : ℕ) → o + n ≤ r.end - r.start → fetched t (r.start + o) n ≡ part (take (r.end - r.start) (drop r.start t)) o n
  unfolding part
  within o n h = fetched-in t (r.start + o) n (omega (arith, at.inside)) ∙ sym (part-part t r.start (r.end - r.start) o n h)

  pub links-lent : fetched t (r.start + 2) r.slots ≡ (pool_of (view t) q).links
  unfolding arena_of
  links-lent = within 2 r.slots (omega (arith, at.end)) ∙ ap (λ (a : Arena). a.links) (pool-read t q r s at)

  pub generations-lent : fetched t (r.start + 2 + r.slots) r.slots ≡ (pool_of (view t) q).gens
  unfolding arena_of
  generations-lent =
      let e : r.start + 2 + r.slots ≡ r.start + (2 + r.slots) = omega arith in
      rw e (within (2 + r.slots) r.slots (omega (arith, at.end))) ∙ ap (λ (a : Arena). a.gens) (pool-read t q r s at)
