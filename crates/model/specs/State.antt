-- What the tables hold (document 01, "Memory and who can be refused"), as plain lists.
-- Owner, parent, manager and children are slot numbers; capabilities and queued updates hold handles.
use Rattle.std.specs.Prelude.{ℕ, ◌+◌, ◌^◌, ◌<◌, Bool, false, List, [], set}
use Rattle.std.proofs.Math.Option.{Option, none, some, get_or}
use Rattle.model.specs.Lists.{at_slot}

-- Stored numbers are words of 64 bits.
abbrev pub Word : ℕ → Type 0
Word n = n < 2 ^ 64

-- "Tables: .. domains, .. slots each, .. regions, .. tracker records, .. updates".
pub record Sizes : Type 0 where
  pub domains : ℕ
  pub slots : ℕ
  pub regions : ℕ
  pub records : ℕ
  pub updates : ℕ

-- "handle (slot number and 64-bit generation)": the slot's generation when the handle was made (`Handle`).
pub record Handle : Type 0 where
  pub slot : ℕ
  pub generation : ℕ

-- **Arenas**: the slots' generations, and the free slots, the one given next first.
pub record Pool : Type 0 where
  pub gens : List ℕ
  pub free : List ℕ

-- What a slot in use of a domain's list holds (`Capa`): a region that the domain owns; one that it may revoke; a domain that it manages, and may send to and
-- close; a domain that it may send to. `no_capa` is `Capa::None`: what a revoke leaves in the slot, until a sweep frees it.
pub data Capa : Type 0 where
  no_capa : Capa
  region : Handle → Capa
  region_revoke : Handle → Capa
  management : Handle → Capa
  channel : Handle → Capa

-- A domain's capability list: `none` is a free slot; the free slots, the one given next first.
pub record LocalList : Type 0 where
  pub held : List (Option Capa)
  pub free : List ℕ

-- **Tracker**: reach, four right counts and the uncacheable count of a record; what they count: Counts.antt.
pub record Counts : Type 0 where
  pub reach : ℕ
  pub read : ℕ
  pub write : ℕ
  pub exec : ℕ
  pub super : ℕ
  pub uncacheable : ℕ

-- A tracker record from start up to but not including end, with its slot in the record pool (`Region` of region.rs).
pub record Record : Type 0 where
  pub slot : ℕ
  pub start : ℕ
  pub end : ℕ
  pub counts : Counts

-- Document 02, request 2: "each domain has a 64-bit word .. and a freeze that can't be lifted" (`monitor_interface`, `freezed`).
pub record Interface : Type 0 where
  pub word : ℕ
  pub frozen : Bool

-- "with SEND, ALIAS and CARVE at bits 1, 3 and 4" (`monitor_inter_perm`); the other bits are stored and mean nothing
abbrev pub SEND : ℕ
SEND = 2

abbrev pub ALIAS : ℕ
ALIAS = 8

abbrev pub CARVE : ℕ
CARVE = 16

-- "A domain opens with all three set and unfrozen"
abbrev pub open_interface : Interface
open_interface = record { word = SEND + ALIAS + CARVE; frozen = false }

-- A domain: its manager's slot or none, its core map, its capability list, its tracker in list order, its interface (`Domain`).
pub record Domain : Type 0 where
  pub manager : Option ℕ
  pub cores : ℕ
  pub locals : LocalList
  pub tracker : List Record
  pub interface : Interface

-- Given by the platform; shared with the parent; taken out of the parent. The parent's slot stands in the kind (`RegionKind`).
pub data Kind : Type 0 where
  Root : Kind
  Alias : ℕ → Kind
  Carve : ℕ → Kind

-- the parent's slot, if there is one
abbrev pub parent_of : Kind → Option ℕ
parent_of Root = none
parent_of (Alias p) = some p
parent_of (Carve p) = some p

-- Document 02, request 1: a "32-byte hash" (`RegionHash`) as four words: byte 8 k + j of it is bits 8 j to 8 j + 7 of word k.
pub record Hash : Type 0 where
  pub word0 : ℕ
  pub word1 : ℕ
  pub word2 : ℕ
  pub word3 : ℕ

-- a hash, if there is one, is of 64-bit words
abbrev pub HashWords : Option Hash → Type 0
HashWords none = Unit {0}
HashWords (some x) = Word x.word0 × Word x.word1 × Word x.word2 × Word x.word3

-- A region from start up to but not including end; its owner's slot; its children's slots in list order; its hash, if one is stored (`RegionCapa`).
pub record Region : Type 0 where
  pub owner : ℕ
  pub kind : Kind
  pub start : ℕ
  pub end : ℕ
  pub rights : ℕ
  pub children : List ℕ
  pub hash : Option Hash

-- A range with rights, as a call names it, or a permission list's record (`AccessRights`, `MemoryPermission`).
pub record Access : Type 0 where
  pub start : ℕ
  pub end : ℕ
  pub rights : ℕ

-- Document 02, request 1: what a send may say besides: "an optional flag word and optional 32-byte hash".
pub record SendOptions : Type 0 where
  pub flags : Option ℕ
  pub hash : Option Hash

abbrev pub no_options : SendOptions
no_options = record { flags = none; hash = none }

-- **Update ring** (`Update`): `permission`, a domain whose permissions changed, its core map and the marks gathered so far (document 02, request 4); `cleanup`,
-- a range to be cleaned up.
pub data Update : Type 0 where
  permission : Handle → ℕ → ℕ → Update
  cleanup : ℕ → ℕ → Update

-- The ring's read place, and what is queued, oldest first (`Buffer`).
pub record Queue : Type 0 where
  pub read_place : ℕ
  pub items : List Update

-- All the tables. A slot of `domains` or `regions` is `none` where it is free.
pub record State : Type 0 where
  pub sizes : Sizes
  pub domain_pool : Pool
  pub region_pool : Pool
  pub record_pool : Pool
  pub domains : List (Option Domain)
  pub regions : List (Option Region)
  pub queue : Queue

-- ---- a state, a domain or a region with the parts that the name says changed, and all others as they were

abbrev pub with_domains : Pool → List (Option Domain) → State → State
with_domains p l s = record { sizes = s.sizes; domain_pool = p; region_pool = s.region_pool; record_pool = s.record_pool; domains = l; regions = s.regions; queue = s.queue }

abbrev pub with_regions : Pool → List (Option Region) → State → State
with_regions p l s = record { sizes = s.sizes; domain_pool = s.domain_pool; region_pool = p; record_pool = s.record_pool; domains = s.domains; regions = l; queue = s.queue }

abbrev pub with_record_pool : Pool → State → State
with_record_pool p s = record { sizes = s.sizes; domain_pool = s.domain_pool; region_pool = s.region_pool; record_pool = p; domains = s.domains; regions = s.regions; queue = s.queue }

abbrev pub with_queue : Queue → State → State
with_queue q s = record { sizes = s.sizes; domain_pool = s.domain_pool; region_pool = s.region_pool; record_pool = s.record_pool; domains = s.domains; regions = s.regions; queue = q }

abbrev pub with_cores : ℕ → Domain → Domain
with_cores c d = record { manager = d.manager; cores = c; locals = d.locals; tracker = d.tracker; interface = d.interface }

abbrev pub with_locals : LocalList → Domain → Domain
with_locals l d = record { manager = d.manager; cores = d.cores; locals = l; tracker = d.tracker; interface = d.interface }

abbrev pub with_tracker : List Record → Domain → Domain
with_tracker t d = record { manager = d.manager; cores = d.cores; locals = d.locals; tracker = t; interface = d.interface }

abbrev pub with_interface : Interface → Domain → Domain
with_interface f d = record { manager = d.manager; cores = d.cores; locals = d.locals; tracker = d.tracker; interface = f }

abbrev pub with_owner : ℕ → Region → Region
with_owner o r = record { owner = o; kind = r.kind; start = r.start; end = r.end; rights = r.rights; children = r.children; hash = r.hash }

abbrev pub with_rights_hash : ℕ → Option Hash → Region → Region
with_rights_hash n x r = record { owner = r.owner; kind = r.kind; start = r.start; end = r.end; rights = n; children = r.children; hash = x }

abbrev pub with_children : List ℕ → Region → Region
with_children c r = record { owner = r.owner; kind = r.kind; start = r.start; end = r.end; rights = r.rights; children = c; hash = r.hash }

-- ---- a domain and a region by slot number; a free slot reads as `none_domain`, `none_region`: so `closes_running` finds no core map in one

abbrev pub none_domain : Domain
none_domain = record { manager = none; cores = 0; locals = record { held = []; free = [] }; tracker = []; interface = record { word = 0; frozen = false } }

abbrev pub none_region : Region
none_region = record { owner = 0; kind = Root; start = 0; end = 0; rights = 0; children = []; hash = none }

-- the domain, and the region, in a slot
abbrev pub domain_at : State → ℕ → Domain
domain_at s d = get_or (at_slot s.domains d) none_domain

abbrev pub region_in : List (Option Region) → ℕ → Region
region_in rs i = get_or (at_slot rs i) none_region

abbrev pub region_at : State → ℕ → Region
region_at s i = region_in s.regions i

-- a domain, and a region, put into a slot
abbrev pub put_domain : ℕ → Domain → State → State
put_domain d x s = with_domains s.domain_pool (set s.domains d (some x)) s

abbrev pub put_region : ℕ → Region → State → State
put_region i x s = with_regions s.region_pool (set s.regions i (some x)) s
