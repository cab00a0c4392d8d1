-- Laws: each of the two parts of the test of pools and slot lists holds exactly where its clauses do.
use Rattle.std.specs.Prelude.{◌≡◌, refl, ◌↔◌, ℕ, ◌<◌, Bool, true, false, length}
use Rattle.std.proofs.Common.{sym, ap, ◌∙◌, arith, lt-ltb, le-ltb}
use Rattle.std.proofs.Math.Path.{subst}
use Rattle.std.proofs.lemmas.List.{length-map}
use Rattle.base.specs.Cases.{lt, ge, cmp, holds, fails, test}
use Rattle.base.specs.Tests.{both_true, both-i}
use Rattle.model.specs.Lists.{one_if, In}
use Rattle.model.specs.State as state
use Rattle.model.specs.Sound.{OutsideSound, TrackersSound, OnceEach, slot_uses}
use Rattle.laws.specs.Stack.{once-at-most, none-beyond}
use Rattle.tables.specs.Tables.{Tables}
use Rattle.decoded.specs.Shape.{Shaped}
use Rattle.decoded.specs.Decode.Read.{taken, free_from, held_in, domain_read, region_read, domains_from, regions_from, pool_from, state_of}
use Rattle.decoded.specs.Canonical.WellFormed.{OutsideWellFormed, TrackersWellFormed, DomainWellFormed, domain_row, region_row, record_row}
use Rattle.decoded.specs.Canonical.Pools.{table-used, table-in}
use Rattle.list_links.specs.declared.Stack.TheVariants.{Domains, Regions, Records, Trackers}
use Rattle.list_links.specs.Stacks.{may_meet, stack_holds}
use Rattle.sound_pools.specs.Hold.{trackers_hold, pool_holds, outside_pools_hold, record_pool_holds}
use Rattle.sound_rows.specs.Hold.{domain_holds, rows_hold}
use Rattle.exact_pools.specs.Clauses.{PoolsClauses, RecordClauses}
use Rattle.exact_pools.specs.Pools.{PoolGood, pool-good, good-pool, good-well-formed, good-marked, good-beyond, good-used, good-free, good-once, once-good, marked-good, list-once, once-list}
use Rattle.exact_pools.specs.Rows.{region-zero, zero-region, record-zero, zero-record}
use Rattle.exact_pools.specs.Trackers.{uses, TrackersGood, trackers-good, good-trackers}
use Rattle.exact_pools.specs.Domains.{record-used, no_record_lem, domain-stack, region-stack, record-stack, slots-many, RowGood, used-holds, holds-used, free-holds, holds-free, domains-hold, hold-domains, regions-hold, hold-regions, records-hold, hold-records}

module _ (v : Tables) (s : Shaped v) where
  -- ---- domains and regions: the parts of the test

  record Parts : Type 0 where
    domains : PoolGood v.sizes.domains v.domain_pool
    regions : PoolGood v.sizes.regions v.region_pool
    domain_rows : rows_hold v Domains ≡ true
    region_rows : rows_hold v Regions ≡ true

  parts : outside_pools_hold v ≡ true → Parts
  unfolding pool_holds
  parts h =
      let b = both_true (pool_holds v Domains) (pool_holds v Regions) h in
      let d = both_true (stack_holds v Domains) (rows_hold v Domains) b.0 in
      let r = both_true (stack_holds v Regions) (rows_hold v Regions) b.1 in
      record {
        domains = pool-good v.sizes.domains v.domain_pool (sym (domain-stack v) ∙ d.0);
        regions = pool-good v.sizes.regions v.region_pool (sym (region-stack v) ∙ r.0);
        domain_rows = d.1;
        region_rows = r.1;
      }

  whole : Parts → outside_pools_hold v ≡ true
  unfolding pool_holds
  whole p =
      let d = domain-stack v ∙ good-pool v.sizes.domains v.domain_pool (omega (arith, s.limits.domains-low)) p.domains in
      let r = region-stack v ∙ good-pool v.sizes.regions v.region_pool (omega (arith, s.limits.regions-low)) p.regions in
      both-i (pool_holds v Domains) (pool_holds v Regions) (both-i (stack_holds v Domains) (rows_hold v Domains) d p.domain_rows) (both-i (stack_holds v Regions) (rows_hold v Regions) r p.region_rows)

  -- ---- test to clauses

  module _ (p : Parts) where
    domains-used : (i : ℕ) → i < v.sizes.domains → taken v.domain_pool i ≡ true → DomainWellFormed v.sizes.slots (domain_row v i)
    domains-used i b t =
        let u = used-holds v s i b t (domains-hold v p.domain_rows i b) in
        record { fits = u.1.fits; ends = u.1.ends; slots = u.0 }

    abbrev ListClause : state.Domain → Type 0
    ListClause x = (length x.locals.held ≡ v.sizes.slots) × OnceEach v.sizes.slots (slot_uses x.locals.held) x.locals.free

    list_at_lem : (d : ℕ) → d < v.sizes.domains → taken v.domain_pool d ≡ true → ListClause (domain_read v d)
    list_at_lem d b t =
        let u = used-holds v s d b t (domains-hold v p.domain_rows d b) in
        (length-map (domain_row v d).slots held_in ∙ slots-many v s d b, list-once v.sizes.slots (domain_row v d) (slots-many v s d b) u.1)

    all-lists : (d : ℕ) (x : state.Domain) → In (domains_from v) d x → ListClause x
    unfolding domains_from
    all-lists d x e = let y = table-in v.sizes.domains v.domain_pool (domain_read v) d x e in subst ListClause y.2 (list_at_lem d y.0 y.1)

    clauses : PoolsClauses v
    unfolding state_of domains_from regions_from pool_from
    clauses = record {
      domain_pool = good-well-formed v.sizes.domains v.domain_pool p.domains;
      region_pool = good-well-formed v.sizes.regions v.region_pool p.regions;
      domains_used = domains-used;
      domains_free = λ i b t. free-holds v s i b t (domains-hold v p.domain_rows i b);
      regions_free = λ i b t. region-zero (region_row v i) (regions-hold v p.region_rows i b t);
      domain_once = good-once v.sizes.domains v.domain_pool p.domains (domain_read v);
      region_once = good-once v.sizes.regions v.region_pool p.regions (region_read v);
      lists = all-lists;
    }

  -- ---- clauses to test

  module _ (c : PoolsClauses v) where
    domains-good : PoolGood v.sizes.domains v.domain_pool
    unfolding state_of pool_from domains_from
    domains-good = once-good v.sizes.domains v.domain_pool (domain_read v) c.domain_pool c.domain_once

    regions-good : PoolGood v.sizes.regions v.region_pool
    unfolding state_of pool_from regions_from
    regions-good = once-good v.sizes.regions v.region_pool (region_read v) c.region_pool c.region_once

    row-good : (d : ℕ) (b : d < v.sizes.domains) → taken v.domain_pool d ≡ true → RowGood v s d b
    unfolding state_of domains_from
    row-good d b y =
        let l = c.lists d (domain_read v d) (table-used v.sizes.domains v.domain_pool (domain_read v) d b y) in
        let u = c.domains_used d b y in
        record { fits = u.fits; ends = u.ends; once = once-list v.sizes.slots (domain_row v d) (slots-many v s d b) l.1 }

    domain-at : (d : ℕ) → d < v.sizes.domains → (q : Bool) → taken v.domain_pool d ≡ q → domain_holds v d ≡ true
    domain-at d b true y = holds-used v s d b y (c.domains_used d b y).slots (row-good d b y)
    domain-at d b false y = holds-free v s d b y (c.domains_free d b y)

    clauses-hold : outside_pools_hold v ≡ true
    clauses-hold = whole (record {
      domains = domains-good;
      regions = regions-good;
      domain_rows = hold-domains v (λ d b. domain-at d b (taken v.domain_pool d) refl);
      region_rows = hold-regions v (λ i b y. zero-region (region_row v i) (c.regions_free i b y));
    })

  pub pools-exact : (outside_pools_hold v ≡ true) ↔ PoolsClauses v
  pools-exact = (λ h. clauses (parts h), clauses-hold)

  -- ---- records

  record RecordParts : Type 0 where
    records : PoolGood v.sizes.records v.record_pool
    record_rows : rows_hold v Records ≡ true
    trackers : TrackersGood v

  record-parts : record_pool_holds v ≡ true → RecordParts
  unfolding pool_holds
  record-parts h =
      let c = both_true (pool_holds v Records) (trackers_hold v) h in
      let t = both_true (stack_holds v Records) (rows_hold v Records) c.0 in
      record {
        records = pool-good v.sizes.records v.record_pool (sym (record-stack v) ∙ t.0);
        record_rows = t.1;
        trackers = trackers-good v c.1;
      }

  record-whole : RecordParts → record_pool_holds v ≡ true
  unfolding pool_holds
  record-whole p =
      let t = record-stack v ∙ good-pool v.sizes.records v.record_pool (omega (arith, s.limits.records-low)) p.records in
      both-i (pool_holds v Records) (trackers_hold v) (both-i (stack_holds v Records) (rows_hold v Records) t p.record_rows) (good-trackers v p.trackers)

  module _ (p : RecordParts) where
    record-once : OnceEach v.sizes.records (uses v 0 v.sizes.domains) (free_from v.sizes.records v.record_pool)
    record-once i =
        let n = v.sizes.records in
        let a = v.record_pool in
        elim (cmp i n) [
          | lt b ↦ elim (test (taken a i)) [
            | holds t ↦ omega (arith, p.trackers.once i, ap one_if (record-used v i b ∙ t), good-used n a p.records i b t, ap one_if (lt-ltb i n b))
            | fails t ↦ omega (arith, p.trackers.once i, ap one_if (record-used v i b ∙ t), good-free n a p.records i b t, ap one_if (lt-ltb i n b))
          ]
          | ge b ↦ omega (arith, p.trackers.once i, ap one_if (no_record_lem v i b), good-beyond n a p.records i b, ap one_if (le-ltb i n b))
        ]

    record-clauses : RecordClauses v
    unfolding state_of domains_from pool_from uses
    record-clauses = record {
      well_formed = record {
        record_pool = good-well-formed v.sizes.records v.record_pool p.records;
        record_marks = good-marked v.sizes.records v.record_pool p.records;
        trackers_end = p.trackers.ends;
        records_free = λ i b t. record-zero (record_row v i) (records-hold v p.record_rows i b t);
      };
      record_once = record-once;
    }

  module _ (c : RecordClauses v) where
    once-records : OnceEach v.sizes.records (uses v 0 v.sizes.domains) (free_from v.sizes.records v.record_pool)
    unfolding state_of pool_from domains_from uses
    once-records = c.record_once

    records-good : PoolGood v.sizes.records v.record_pool
    records-good =
        marked-good v.sizes.records v.record_pool c.well_formed.record_pool c.well_formed.record_marks
        (λ i. omega (arith, once-at-most v.sizes.records (uses v 0 v.sizes.domains) (free_from v.sizes.records v.record_pool) once-records i))
        (λ i b. omega (arith, none-beyond v.sizes.records (uses v 0 v.sizes.domains) (free_from v.sizes.records v.record_pool) once-records i b))

    trackers-once : (i : ℕ) → uses v 0 v.sizes.domains i ≡ one_if (may_meet v Trackers i)
    trackers-once i =
        let n = v.sizes.records in
        let a = v.record_pool in
        elim (cmp i n) [
          | lt b ↦ elim (test (taken a i)) [
            | holds y ↦ omega (arith, once-records i, ap one_if (record-used v i b ∙ y), good-used n a records-good i b y, ap one_if (lt-ltb i n b))
            | fails y ↦ omega (arith, once-records i, ap one_if (record-used v i b ∙ y), good-free n a records-good i b y, ap one_if (lt-ltb i n b))
          ]
          | ge b ↦ omega (arith, once-records i, ap one_if (no_record_lem v i b), ap one_if (le-ltb i n b))
        ]

    record-clauses-hold : record_pool_holds v ≡ true
    record-clauses-hold = record-whole (record {
      records = records-good;
      record_rows = hold-records v (λ i b y. zero-record (record_row v i) (c.well_formed.records_free i b y));
      trackers = record { once = trackers-once; ends = c.well_formed.trackers_end };
    })

  pub record-pool-exact : (record_pool_holds v ≡ true) ↔ RecordClauses v
  record-pool-exact = (λ h. record-clauses (record-parts h), record-clauses-hold)

-- ---- the clauses are some of those of sound tables

pub sound-pools : (v : Tables) → OutsideWellFormed v → OutsideSound (state_of v) → PoolsClauses v
unfolding state_of
sound-pools v t h = record {
  domain_pool = t.domain_pool;
  region_pool = t.region_pool;
  domains_used = t.domains_used;
  domains_free = t.domains_free;
  regions_free = t.regions_free;
  domain_once = h.domain_pool.once;
  region_once = h.region_pool.once;
  lists = λ d x e. let l = h.lists d x e in (l.held_length, l.once);
}

pub sound-record-pool : (v : Tables) → TrackersWellFormed v → TrackersSound (state_of v) → RecordClauses v
unfolding state_of
sound-record-pool v t h = record { well_formed = t; record_once = h.record_pool.once }
