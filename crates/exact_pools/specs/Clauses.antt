-- The clauses of `WellFormed v` and of `Sound (state_of v)` that the test of pools and slot lists settles. Document 01, **Sound**: "every pool or list slot
-- is in use or free once"; "each tracker record is on one list". The test is in two parts, and so are the clauses: domains and regions; records.
use Rattle.std.specs.Prelude.{◌≡◌, ℕ, ◌<◌, true, false, length}
use Rattle.std.proofs.Math.Option.{none}
use Rattle.model.specs.Lists.{In}
use Rattle.model.specs.State as state
use Rattle.model.specs.Sound.{OnceEach, slot_uses, record_uses}
use Rattle.tables.specs.Tables.{Tables, no_region}
use Rattle.decoded.specs.Tables.{domain_for}
use Rattle.decoded.specs.Decode.Read.{taken, state_of}
use Rattle.decoded.specs.Canonical.WellFormed.{PoolWellFormed, DomainWellFormed, TrackersWellFormed, domain_row, region_row}

pub record PoolsClauses (v : Tables) : Type 0 where
  -- the words
  pub domain_pool : PoolWellFormed v.sizes.domains v.domain_pool
  pub region_pool : PoolWellFormed v.sizes.regions v.region_pool
  pub domains_used : (i : ℕ) → i < v.sizes.domains → taken v.domain_pool i ≡ true → DomainWellFormed v.sizes.slots (domain_row v i)
  pub domains_free : (i : ℕ) → i < v.sizes.domains → taken v.domain_pool i ≡ false → domain_row v i ≡ domain_for v.sizes.slots none
  pub regions_free : (i : ℕ) → i < v.sizes.regions → taken v.region_pool i ≡ false → region_row v i ≡ no_region
  -- the state that is read
  pub domain_once : OnceEach v.sizes.domains (slot_uses (state_of v).domains) (state_of v).domain_pool.free
  pub region_once : OnceEach v.sizes.regions (slot_uses (state_of v).regions) (state_of v).region_pool.free
  pub lists : (d : ℕ) (x : state.Domain) → In (state_of v).domains d x → (length x.locals.held ≡ v.sizes.slots) × OnceEach v.sizes.slots (slot_uses x.locals.held) x.locals.free

pub record RecordClauses (v : Tables) : Type 0 where
  pub well_formed : TrackersWellFormed v
  pub record_once : OnceEach v.sizes.records (record_uses (state_of v).domains) (state_of v).record_pool.free
