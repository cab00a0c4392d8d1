-- The clauses of `WellFormed` and `Sound` about capabilities, which this crate tests, and those of earlier tests that it leans on.
use Rattle.std.specs.Prelude.{◌≡◌, ℕ, ◌<◌, true}
use Rattle.model.specs.Lists.{Each, In}
use Rattle.model.specs.State as state
use Rattle.model.specs.State.{Word}
use Rattle.model.specs.Sound.{OutsideSound, OnceEach, slot_uses, OwnerSound, ManagerSound, RevokeFit, HandleFit}
use Rattle.tables.specs.Tables.{Tables}
use Rattle.decoded.specs.Shape.{Shaped}
use Rattle.decoded.specs.Decode.Read.{taken, state_of}
use Rattle.decoded.specs.Canonical.WellFormed.{OutsideWellFormed, PoolWellFormed, RegionWellFormed, domain_row, region_row}

-- ---- what is known before

-- what is stored are words
pub record Stored (v : Tables) : Type 0 where
  pub cores : (i : ℕ) → i < v.sizes.domains → Word (domain_row v i).head.cores

-- of the pools and the tree: each domain and region is in use or free once, and what the words of a region in use say
pub record Before (v : Tables) : Type 0 where
  pub shaped : Shaped v
  pub domain_pool : PoolWellFormed v.sizes.domains v.domain_pool
  pub region_pool : PoolWellFormed v.sizes.regions v.region_pool
  pub domains_once : OnceEach v.sizes.domains (slot_uses (state_of v).domains) (state_of v).domain_pool.free
  pub regions_once : OnceEach v.sizes.regions (slot_uses (state_of v).regions) (state_of v).region_pool.free
  pub regions_used : (i : ℕ) → i < v.sizes.regions → taken v.region_pool i ≡ true → RegionWellFormed (region_row v i)

pub all-before : (v : Tables) → Shaped v → OutsideWellFormed v → OutsideSound (state_of v) → Before v
unfolding state_of
all-before v s t h =
    record { shaped = s; domain_pool = t.domain_pool; region_pool = t.region_pool; domains_once = h.domain_pool.once; regions_once = h.region_pool.once; regions_used = t.regions_used }

-- ---- what is tested

pub record CapasClauses (v : Tables) : Type 0 where
  pub owners : (i : ℕ) (g : state.Region) → In (state_of v).regions i g → OwnerSound (state_of v).region_pool (state_of v).domains i g
  pub managers : (d : ℕ) (x : state.Domain) → In (state_of v).domains d x → ManagerSound (state_of v).domain_pool (state_of v).domains d x
  pub revokes_fit : (d : ℕ) (x : state.Domain) → In (state_of v).domains d x → Each (RevokeFit (state_of v).region_pool (state_of v).regions) x.locals.held
  pub handles_fit : (d : ℕ) (x : state.Domain) → In (state_of v).domains d x → Each (HandleFit (state_of v).region_pool (state_of v).regions (state_of v).domain_pool (state_of v).domains) x.locals.held
  pub cores_words : (d : ℕ) (x : state.Domain) → In (state_of v).domains d x → Word x.cores
