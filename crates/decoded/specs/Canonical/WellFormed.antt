-- When the words of tables are those of the state that is read from them. `WellFormed` is what a program checks, row by row and walk by walk; `Walked`
-- are facts about the walked lists that it need not check where the state is sound.
use Rattle.std.specs.Prelude.{◌≡◌, ℕ, suc, ◌+◌, ◌-◌, ◌≤◌, ◌<◌, true, false, not, eqb, get_or}
use Rattle.std.proofs.Math.Option.{none}
use Rattle.model.specs.Lists.{exists, count_if}
use Rattle.model.specs.Sound.{record_uses}
use Rattle.tables.specs.declared.Slot.{Slot}
use Rattle.tables.specs.declared.RegionCapa.{RegionCapa}
use Rattle.tables.specs.declared.Region.{Region}
use Rattle.tables.specs.declared.Update.{Update}
use Rattle.tables.specs.declared.RegionHash.{RegionHash}
use Rattle.tables.specs.declared.Interface.{Interface}
use Rattle.tables.specs.Kinds.{NONE, FREE, CHANNEL, ROOT, ALIAS, CARVE, PERMISSION, CLEANUP}
use Rattle.tables.specs.Tables.{Tables, Arena, Domain, no_domain, no_slot, no_region, no_record, no_update, no_hash, no_interface}
use Rattle.decoded.specs.Tables.{domain_for, tables_of}
use Rattle.decoded.specs.Decode.Read.{after_free, free_from, taken, after_slot, list_from, children_from, domains_from, state_of}
use Rattle.decoded.specs.Decode.Places.{along}
use Rattle.decoded.specs.Canonical.Ends.{stack_end, chain_end}

-- the words are exactly those of the state that is read
abbrev pub Canonical : Tables → Type 0
Canonical v = tables_of (state_of v) ≡ v

-- ---- one row

-- A pool over n slots: no more are in use than there are; the walk along the free stack ends at slot 0, so the last link is 1, and the head of an
-- empty stack is 0.
pub record PoolWellFormed (n : ℕ) (a : Arena) : Type 0 where
  pub fits : a.count ≤ n
  pub ends : stack_end (after_free a.links) (n - a.count) a.head ≡ 0

-- the links are 0 exactly off the free stack
abbrev pub Marked : ℕ → Arena → Type 0
Marked n a = (i : ℕ) → i < n → taken a i ≡ not (exists (eqb i) (free_from n a))

-- a slot of a capability list
pub record SlotWellFormed (x : Slot) : Type 0 where
  pub kind_known : x.kind ≤ CHANNEL
  pub none_clear : x.kind ≡ NONE → x.handle.slot ≡ 0
  pub generation_clear : x.kind ≤ FREE → x.handle.generation ≡ 0

-- A domain in use, with m slots: its free stack as that of a pool.
pub record DomainWellFormed (m : ℕ) (x : Domain) : Type 0 where
  pub fits : x.head.count ≤ m
  pub ends : stack_end (after_slot x.slots) (m - x.head.count) x.head.head ≡ 0
  pub slots : (j : ℕ) → j < m → SlotWellFormed (get_or x.slots j no_slot)

-- a region in use
pub record RegionWellFormed (r : RegionCapa) : Type 0 where
  pub kind_low : ROOT ≤ r.kind
  pub kind_high : r.kind ≤ CARVE
  pub owned : 0 < r.owner
  pub root_parent : r.kind ≡ ROOT → r.parent ≡ 0
  pub root_next : r.kind ≡ ROOT → r.next ≡ 0
  pub child_parent : ALIAS ≤ r.kind → 0 < r.parent

-- the hash of a region in use: one that is given, or none
pub record HashWellFormed (x : RegionHash) : Type 0 where
  pub given_bit : x.given ≤ 1
  pub none_clear : x.given ≡ 0 → x ≡ no_hash

-- the interface of a domain in use: frozen or not
abbrev pub InterfaceWellFormed : Interface → Type 0
InterfaceWellFormed f = f.frozen ≤ 1

-- a place of the ring where an update is queued, with its mark
pub record UpdateWellFormed (u : Update) (m : ℕ) : Type 0 where
  pub kind_low : PERMISSION ≤ u.kind
  pub kind_high : u.kind ≤ CLEANUP
  pub cleanup_clear : u.kind ≡ CLEANUP → u.c ≡ 0
  pub cleanup_marks : u.kind ≡ CLEANUP → m ≡ 0

-- ---- the whole

abbrev pub domain_row : Tables → ℕ → Domain
domain_row v i = get_or v.domains i no_domain

abbrev pub region_row : Tables → ℕ → RegionCapa
region_row v i = get_or v.regions i no_region

abbrev pub hash_row : Tables → ℕ → RegionHash
hash_row v i = get_or v.hashes i no_hash

abbrev pub interface_row : Tables → ℕ → Interface
interface_row v i = get_or v.interfaces i no_interface

abbrev pub record_row : Tables → ℕ → Region
record_row v i = get_or v.records i no_record

abbrev pub place : Tables → ℕ → Update
place v k = get_or v.ring k no_update

abbrev pub place_mark : Tables → ℕ → ℕ
place_mark v k = get_or v.marks k 0

-- how far place k is behind the read place; for the write place that is the number of updates
abbrev pub behind : Tables → ℕ → ℕ
behind v k = along (v.sizes.updates + 1) v.read k

-- Free rows, and places where nothing is queued, are all zero. The parts are those of `Sound`: what is outside the trackers and the ring; the
-- trackers, whose walks end, with their pool; the ring.
pub record OutsideWellFormed (v : Tables) : Type 0 where
  pub domain_pool : PoolWellFormed v.sizes.domains v.domain_pool
  pub region_pool : PoolWellFormed v.sizes.regions v.region_pool
  pub domains_used : (i : ℕ) → i < v.sizes.domains → taken v.domain_pool i ≡ true → DomainWellFormed v.sizes.slots (domain_row v i)
  pub domains_free : (i : ℕ) → i < v.sizes.domains → taken v.domain_pool i ≡ false → domain_row v i ≡ domain_for v.sizes.slots none
  pub regions_used : (i : ℕ) → i < v.sizes.regions → taken v.region_pool i ≡ true → RegionWellFormed (region_row v i)
  pub regions_free : (i : ℕ) → i < v.sizes.regions → taken v.region_pool i ≡ false → region_row v i ≡ no_region
  pub hashes_used : (i : ℕ) → i < v.sizes.regions → taken v.region_pool i ≡ true → HashWellFormed (hash_row v i)
  pub hashes_free : (i : ℕ) → i < v.sizes.regions → taken v.region_pool i ≡ false → hash_row v i ≡ no_hash
  pub interfaces_used : (i : ℕ) → i < v.sizes.domains → taken v.domain_pool i ≡ true → InterfaceWellFormed (interface_row v i)
  pub interfaces_free : (i : ℕ) → i < v.sizes.domains → taken v.domain_pool i ≡ false → interface_row v i ≡ no_interface

pub record TrackersWellFormed (v : Tables) : Type 0 where
  pub record_pool : PoolWellFormed v.sizes.records v.record_pool
  pub record_marks : Marked v.sizes.records v.record_pool
  pub trackers_end : (d : ℕ) → d < v.sizes.domains → taken v.domain_pool d ≡ true → chain_end (λ i. (record_row v i).next) v.sizes.records (domain_row v d).head.tracker ≡ 0
  pub records_free : (i : ℕ) → i < v.sizes.records → taken v.record_pool i ≡ false → record_row v i ≡ no_record

pub record QueueWellFormed (v : Tables) : Type 0 where
  pub queued : (k : ℕ) → k < v.sizes.updates + 1 → behind v k < behind v v.write → UpdateWellFormed (place v k) (place_mark v k)
  pub unqueued : (k : ℕ) → k < v.sizes.updates + 1 → behind v v.write ≤ behind v k → (place v k ≡ no_update) × (place_mark v k ≡ 0)

pub record WellFormed (v : Tables) : Type 0 where
  pub outside : OutsideWellFormed v
  pub tracked : TrackersWellFormed v
  pub queue : QueueWellFormed v

-- The free slots of the tables and lists are those on the free stacks; the walk along a child list ends; a region that is not a root stands in the
-- list of a region in use, which its parent link names.
pub record OutsideWalked (v : Tables) : Type 0 where
  pub domain_marks : Marked v.sizes.domains v.domain_pool
  pub region_marks : Marked v.sizes.regions v.region_pool
  pub slot_marks : (i : ℕ) → i < v.sizes.domains → taken v.domain_pool i ≡ true → (j : ℕ) → j < v.sizes.slots → (get_or (domain_row v i).slots j no_slot).kind ≡ 1 → 0 < count_if (eqb j) (list_from v.sizes.slots (domain_row v i)).free
  pub children_end : (i : ℕ) → i < v.sizes.regions → taken v.region_pool i ≡ true → chain_end (λ k. (region_row v k).next) v.sizes.regions (region_row v i).child ≡ 0
  pub parent_taken : (i p : ℕ) → i < v.sizes.regions → taken v.region_pool i ≡ true → 2 ≤ (region_row v i).kind → (region_row v i).parent ≡ suc p → (p < v.sizes.regions) × (taken v.region_pool p ≡ true)
  pub listed : (i p : ℕ) → i < v.sizes.regions → taken v.region_pool i ≡ true → 2 ≤ (region_row v i).kind → (region_row v i).parent ≡ suc p → 0 < count_if (eqb i) (children_from v.sizes.regions v.regions (region_row v p).child)

-- The ring's two places lie in it.
pub record QueueWalked (v : Tables) : Type 0 where
  pub read : v.read < v.sizes.updates + 1
  pub write : v.write < v.sizes.updates + 1

-- A record in use is in a tracker.
pub record Walked (v : Tables) : Type 0 where
  pub outside : OutsideWalked v
  pub queue : QueueWalked v
  pub records_used : (i : ℕ) → i < v.sizes.records → taken v.record_pool i ≡ true → 0 < record_uses (domains_from v) i
