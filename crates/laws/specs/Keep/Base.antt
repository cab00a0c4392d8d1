-- The update ring and the pools of regions and domains together, and how they pass from state to state where the queue, or the tables, are the same.
use Rattle.std.specs.Prelude.{◌≡◌, refl, ℕ}
use Rattle.std.proofs.Common.{sym, ap, subst, ◌∙◌}
use Rattle.std.proofs.Math.Option.{Option, none, some}
use Rattle.model.specs.Lists.{is_some, at_slot, In}
use Rattle.model.specs.State.{State, Sizes, Word, Pool, Domain, cleanup}
use Rattle.model.specs.Updates.{push}
use Rattle.model.specs.Sound.{Sound}
use Rattle.laws.specs.Accepted.{All, weaken, both}
use Rattle.laws.specs.Keep.SameDomains.{untracked, SameDomains, SameOutside, same-domains-turned, same-domains-in, same-domains-live}
use Rattle.laws.specs.Keep.Tracked.{push-queue}
use Rattle.laws.specs.Keep.Pools.{Table, table_same}
use Rattle.laws.specs.Keep.Ring.{Ring, sound-ring, queue-kept-ring, cleanup-ring}

abbrev pub RegionTable : State → Type 0
RegionTable s = Table s.sizes.regions s.regions s.region_pool

abbrev pub DomainTable : State → Type 0
DomainTable s = Table s.sizes.domains s.domains s.domain_pool

pub record Base (s : State) : Type 0 where
  pub ring : Ring s
  pub regions : RegionTable s
  pub domains : DomainTable s

pub sound-base : (s : State) → Sound s → Base s
sound-base s h = record { ring = sound-ring s h; regions = record { size = h.outside.regions_length; pool = h.outside.region_pool }; domains = record { size = h.outside.domains_length; pool = h.outside.domain_pool } }

-- ---- the domains are the same, but for their trackers

same-domains-cores : (s t : State) → SameDomains s t → Ring s → (d : ℕ) (y : Domain) → In t.domains d y → Word y.cores
same-domains-cores s t b r d y e =
    let (x, i, m) = same-domains-in (same-domains-turned b) d y e in
    subst Word (ap (λ (z : Domain). z.cores) m) (r.cores d x i)

same-domains-ring : (s t : State) → SameDomains s t → t.queue ≡ s.queue → Ring s → Ring t
same-domains-ring s t b q r = queue-kept-ring s t (record {
  sizes = b.sizes;
  gens = ap (λ (p : Pool). p.gens) b.domain_pool;
  size = b.size;
  live = same-domains-live b;
  cores = same-domains-cores s t b r;
  queue = q;
}) r

some-untracked : (o : Option Domain) → is_some (untracked o) ≡ is_some o
some-untracked none = refl
some-untracked (some x) = refl

same-domains-domains : (s t : State) → SameDomains s t → DomainTable s → DomainTable t
same-domains-domains s t b k =
    let same : (d : ℕ) → is_some (at_slot t.domains d) ≡ is_some (at_slot s.domains d) = λ d. sym (some-untracked (at_slot t.domains d)) ∙ ap is_some (b.domains d) ∙ some-untracked (at_slot s.domains d) in
    subst (λ (p : Pool). Table t.sizes.domains t.domains p) (sym b.domain_pool) (subst (λ (z : Sizes). Table z.domains t.domains s.domain_pool) (sym b.sizes) (table_same s.sizes.domains s.domains t.domains s.domain_pool b.size same k))

pub same-domains-base : (s t : State) → SameDomains s t → t.queue ≡ s.queue → RegionTable t → Base s → Base t
same-domains-base s t b q k r = record { ring = same-domains-ring s t b q r.ring; regions = k; domains = same-domains-domains s t b r.domains }

-- and so are the regions; of the ring it is known
pub same-outside-base : (s t : State) → SameOutside s t → Ring t → Base s → Base t
same-outside-base s t b k r = record {
  ring = k;
  regions = subst (λ (p : Pool). Table t.sizes.regions t.regions p) (sym b.region_pool) (subst (λ rs. Table t.sizes.regions rs s.region_pool) (sym b.regions) (subst (λ (z : Sizes). Table z.regions s.regions s.region_pool) (sym b.same_domains.sizes) r.regions));
  domains = same-domains-domains s t b.same_domains r.domains;
}

-- ---- a range is queued

pub cleanup-base : (a b : ℕ) (s : State) → Base s → Word a → Word b → All Base (push (cleanup a b) s)
cleanup-base a b s r u v = weaken (both (cleanup-ring a b s r.ring u v) (push-queue (λ t. RegionTable t × DomainTable t) (cleanup a b) s (λ q. (r.regions, r.domains)))) (λ t (k, z). record { ring = k; regions = z.0; domains = z.1 })
