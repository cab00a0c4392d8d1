-- How many regions and domains are in use, counted by their numbers.
use Rattle.std.specs.Prelude.{◌≡◌, refl, ℕ, ◌+◌, ◌-◌, ◌<◌, suc, eqb, ltb}
use Rattle.std.proofs.Common.{sym, ap, ◌∙◌, lt-ltb, le-ltb}
use native.Mathlib.Omega.{arith}
use Rattle.base.specs.Cases.{pick, holds, fails, test}
use Rattle.model.specs.Lists.{one_if, is_some, count_if}
use Rattle.model.specs.Sound as sound
use Rattle.model.specs.Sound.{OnceEach}
use Rattle.laws.specs.Tree.Sum.{sum, sum-add, sum_same, sum-each}
use Rattle.laws.specs.Stack.{stack-length}
use Rattle.tables.specs.Tables.{Tables, Arena}
use Rattle.arena.specs.Arena.{capacity_of}
use Rattle.decoded.specs.Decode.Read.{after_free, free_from, pool_from, taken, table_from, domain_read, region_read, domains_from, regions_from, state_of}
use Rattle.decoded.specs.Canonical.Ends.{stack-long}
use Rattle.decoded.specs.Canonical.WellFormed.{PoolWellFormed}
use Rattle.decoded.specs.Canonical.Pools.{table-used, table-free}
use Rattle.sound_capas.specs.Capas.{in_use}
use Rattle.exact_capas.specs.Fits.{sum-split}
use Rattle.exact_capas.specs.Clauses.{Before}

count-used : {A : Type 0} (n : ℕ) (a : Arena) (f : ℕ → A) → PoolWellFormed n a → OnceEach n (sound.slot_uses (table_from n a f)) (free_from n a) → sum (λ i. one_if (taken a i)) n ≡ a.count
count-used n a f p o =
    let both = sum_same (λ i. sound.slot_uses (table_from n a f) i + count_if (eqb i) (free_from n a)) (λ i. 1) n (λ i b. o i ∙ ap one_if (lt-ltb i n b)) in
    let free = stack-length n (free_from n a) (λ i b. omega (arith, o i, ap one_if (le-ltb i n b))) in
    let same = sum_same (sound.slot_uses (table_from n a f)) (λ i. one_if (taken a i)) n used in
    omega (arith, both, free, same, sum-each n, p.fits, stack-long (after_free a.links) (n - a.count) a.head, sum-add (sound.slot_uses (table_from n a f)) (λ i. count_if (eqb i) (free_from n a)) (λ i. sound.slot_uses (table_from n a f) i + count_if (eqb i) (free_from n a)) n (λ i b. refl))
  where
    used : (i : ℕ) → i < n → sound.slot_uses (table_from n a f) i ≡ one_if (taken a i)
    used i b = elim (test (taken a i)) [
      | holds t ↦ ap (λ o. one_if (is_some o)) (table-used n a f i b t) ∙ sym (ap one_if t)
      | fails t ↦ ap (λ o. one_if (is_some o)) (table-free n a f i b t) ∙ sym (ap one_if t)
    ]

module _ (v : Tables) where
  abbrev R : ℕ
  R = v.sizes.regions

  abbrev D : ℕ
  D = v.sizes.domains

  -- 1 where number c + 1 is that of a region or a domain in use
  abbrev pub used : ℕ → ℕ
  used c = pick (ltb c R) (one_if (taken v.region_pool c)) (one_if (taken v.domain_pool (c - R)))

  pub used-region : (c : ℕ) → c < R → used c ≡ one_if (taken v.region_pool c)
  used-region c b = rw (lt-ltb c R b)

  pub used-domain : (e : ℕ) → used (R + e) ≡ one_if (taken v.domain_pool e)
  used-domain e = let z : R + e - R ≡ e = omega arith in rw (le-ltb (R + e) R (omega arith)) (ap (λ k. one_if (taken v.domain_pool k)) z)

  module _ (k : Before v) where
    regions-used : sum (λ i. one_if (taken v.region_pool i)) R ≡ v.region_pool.count
    unfolding state_of pool_from regions_from
    regions-used = count-used R v.region_pool (region_read v) k.region_pool k.regions_once

    domains-used : sum (λ i. one_if (taken v.domain_pool i)) D ≡ v.domain_pool.count
    unfolding state_of pool_from domains_from
    domains-used = count-used D v.domain_pool (domain_read v) k.domain_pool k.domains_once

    pub used-sum : sum used (R + D) ≡ in_use v
    unfolding capacity_of
    used-sum = omega (
      arith,
      sum-split used R D,
      sum_same used (λ i. one_if (taken v.region_pool i)) R used-region,
      sum_same (λ e. used (R + e)) (λ i. one_if (taken v.domain_pool i)) D (λ e b. used-domain e),
      regions-used,
      domains-used,
      k.region_pool.fits,
      k.domain_pool.fits,
      k.shaped.region_pool.links,
      k.shaped.domain_pool.links,
    )
