-- The tables as a structured value: each field mirrors words of docs/TABLES.md.
use Rattle.std.specs.Prelude.{ℕ, List, [], set, get_or, replicate}
use Rattle.sizes.specs.declared.Sizes.{Sizes}
use Rattle.tables.specs.declared.DomainHead.{DomainHead}
use Rattle.tables.specs.declared.Slot.{Slot}
use Rattle.tables.specs.declared.RegionCapa.{RegionCapa}
use Rattle.tables.specs.declared.Region.{Region}
use Rattle.tables.specs.declared.Update.{Update}
use Rattle.tables.specs.declared.Hash.{Hash}
use Rattle.tables.specs.declared.RegionHash.{RegionHash}
use Rattle.tables.specs.declared.Interface.{Interface}

-- a pool's free list and generations: link 0 is a slot in use, k + 1 a free one with slot k after it
pub record Arena : Type 0 where
  pub head : ℕ
  pub count : ℕ
  pub links : List ℕ
  pub gens : List ℕ

pub record Domain : Type 0 where
  pub head : DomainHead
  pub slots : List Slot

-- `read` and `write` are the ring's two places; `marks` has a word for each place of the ring
pub record Tables : Type 0 where
  pub sizes : Sizes
  pub read : ℕ
  pub write : ℕ
  pub domain_pool : Arena
  pub region_pool : Arena
  pub record_pool : Arena
  pub domains : List Domain
  pub regions : List RegionCapa
  pub records : List Region
  pub ring : List Update
  pub hashes : List RegionHash
  pub interfaces : List Interface
  pub marks : List ℕ

-- ---- the records that are all zero

abbrev pub no_head : DomainHead
no_head = record { manager = 0; cores = 0; tracker = 0; head = 0; count = 0 }

abbrev pub no_slot : Slot
no_slot = record { kind = 0; handle = record { slot = 0; generation = 0 } }

abbrev pub no_domain : Domain
no_domain = record { head = no_head; slots = [] }

-- the record of a domain that is not open, as long as any other
unfoldable pub empty_domain : Sizes → Domain
empty_domain z = record { head = no_head; slots = replicate z.slots no_slot }

abbrev pub no_region : RegionCapa
no_region = record { kind = 0; owner = 0; parent = 0; start = 0; end = 0; rights = 0; child = 0; next = 0 }

abbrev pub no_record : Region
no_record =
    record { start = 0; end = 0; ref_count = 0; read_count = 0; write_count = 0; exec_count = 0; super_count = 0; uncache_count = 0; next = 0 }

abbrev pub no_update : Update
no_update = record { kind = 0; a = 0; b = 0; c = 0 }

abbrev pub no_hash : RegionHash
no_hash = record { given = 0; word0 = 0; word1 = 0; word2 = 0; word3 = 0 }

abbrev pub no_interface : Interface
no_interface = record { word = 0; frozen = 0 }

-- the row of a hash that was given
abbrev pub hash_given : Hash → RegionHash
hash_given h = record { given = 1; word0 = h.word0; word1 = h.word1; word2 = h.word2; word3 = h.word3 }

-- ---- one record read

unfoldable pub head_at : Tables → ℕ → DomainHead
head_at s i = (get_or s.domains i no_domain).head

unfoldable pub slot_at : Tables → ℕ → ℕ → Slot
slot_at s i j = get_or (get_or s.domains i no_domain).slots j no_slot

unfoldable pub region_at : Tables → ℕ → RegionCapa
region_at s i = get_or s.regions i no_region

unfoldable pub record_at : Tables → ℕ → Region
record_at s i = get_or s.records i no_record

unfoldable pub update_at : Tables → ℕ → Update
update_at s i = get_or s.ring i no_update

unfoldable pub hash_at : Tables → ℕ → RegionHash
hash_at s i = get_or s.hashes i no_hash

unfoldable pub interface_at : Tables → ℕ → Interface
interface_at s i = get_or s.interfaces i no_interface

unfoldable pub mark_at : Tables → ℕ → ℕ
mark_at s i = get_or s.marks i 0

-- ---- one field changed

unfoldable pub with_places : Tables → ℕ → ℕ → Tables
with_places s r w =
    record { sizes = s.sizes; read = r; write = w; domain_pool = s.domain_pool; region_pool = s.region_pool; record_pool = s.record_pool; domains = s.domains; regions = s.regions; records = s.records; ring = s.ring; hashes = s.hashes; interfaces = s.interfaces; marks = s.marks }

unfoldable pub with_domain_pool : Tables → Arena → Tables
with_domain_pool s a =
    record { sizes = s.sizes; read = s.read; write = s.write; domain_pool = a; region_pool = s.region_pool; record_pool = s.record_pool; domains = s.domains; regions = s.regions; records = s.records; ring = s.ring; hashes = s.hashes; interfaces = s.interfaces; marks = s.marks }

unfoldable pub with_region_pool : Tables → Arena → Tables
with_region_pool s a =
    record { sizes = s.sizes; read = s.read; write = s.write; domain_pool = s.domain_pool; region_pool = a; record_pool = s.record_pool; domains = s.domains; regions = s.regions; records = s.records; ring = s.ring; hashes = s.hashes; interfaces = s.interfaces; marks = s.marks }

unfoldable pub with_record_pool : Tables → Arena → Tables
with_record_pool s a =
    record { sizes = s.sizes; read = s.read; write = s.write; domain_pool = s.domain_pool; region_pool = s.region_pool; record_pool = a; domains = s.domains; regions = s.regions; records = s.records; ring = s.ring; hashes = s.hashes; interfaces = s.interfaces; marks = s.marks }

unfoldable pub with_domains : Tables → List Domain → Tables
with_domains s ds =
    record { sizes = s.sizes; read = s.read; write = s.write; domain_pool = s.domain_pool; region_pool = s.region_pool; record_pool = s.record_pool; domains = ds; regions = s.regions; records = s.records; ring = s.ring; hashes = s.hashes; interfaces = s.interfaces; marks = s.marks }

unfoldable pub with_regions : Tables → List RegionCapa → Tables
with_regions s rs =
    record { sizes = s.sizes; read = s.read; write = s.write; domain_pool = s.domain_pool; region_pool = s.region_pool; record_pool = s.record_pool; domains = s.domains; regions = rs; records = s.records; ring = s.ring; hashes = s.hashes; interfaces = s.interfaces; marks = s.marks }

unfoldable pub with_records : Tables → List Region → Tables
with_records s rs =
    record { sizes = s.sizes; read = s.read; write = s.write; domain_pool = s.domain_pool; region_pool = s.region_pool; record_pool = s.record_pool; domains = s.domains; regions = s.regions; records = rs; ring = s.ring; hashes = s.hashes; interfaces = s.interfaces; marks = s.marks }

unfoldable pub with_ring : Tables → List Update → Tables
with_ring s us =
    record { sizes = s.sizes; read = s.read; write = s.write; domain_pool = s.domain_pool; region_pool = s.region_pool; record_pool = s.record_pool; domains = s.domains; regions = s.regions; records = s.records; ring = us; hashes = s.hashes; interfaces = s.interfaces; marks = s.marks }

unfoldable pub with_hashes : Tables → List RegionHash → Tables
with_hashes s hs =
    record { sizes = s.sizes; read = s.read; write = s.write; domain_pool = s.domain_pool; region_pool = s.region_pool; record_pool = s.record_pool; domains = s.domains; regions = s.regions; records = s.records; ring = s.ring; hashes = hs; interfaces = s.interfaces; marks = s.marks }

unfoldable pub with_interfaces : Tables → List Interface → Tables
with_interfaces s xs =
    record { sizes = s.sizes; read = s.read; write = s.write; domain_pool = s.domain_pool; region_pool = s.region_pool; record_pool = s.record_pool; domains = s.domains; regions = s.regions; records = s.records; ring = s.ring; hashes = s.hashes; interfaces = xs; marks = s.marks }

unfoldable pub with_marks : Tables → List ℕ → Tables
with_marks s ms =
    record { sizes = s.sizes; read = s.read; write = s.write; domain_pool = s.domain_pool; region_pool = s.region_pool; record_pool = s.record_pool; domains = s.domains; regions = s.regions; records = s.records; ring = s.ring; hashes = s.hashes; interfaces = s.interfaces; marks = ms }

-- ---- a region with one field changed

abbrev pub with_next : RegionCapa → ℕ → RegionCapa
with_next r k = record { kind = r.kind; owner = r.owner; parent = r.parent; start = r.start; end = r.end; rights = r.rights; child = r.child; next = k }

abbrev pub with_child : RegionCapa → ℕ → RegionCapa
with_child r k = record { kind = r.kind; owner = r.owner; parent = r.parent; start = r.start; end = r.end; rights = r.rights; child = k; next = r.next }

abbrev pub with_owner : RegionCapa → ℕ → RegionCapa
with_owner r k = record { kind = r.kind; owner = k; parent = r.parent; start = r.start; end = r.end; rights = r.rights; child = r.child; next = r.next }

-- ---- one record changed; nothing where there is no such record

abbrev pub put_head : Domain → DomainHead → Domain
put_head d h = record { head = h; slots = d.slots }

abbrev pub put_slot : Domain → ℕ → Slot → Domain
put_slot d j x = record { head = d.head; slots = set d.slots j x }

unfoldable pub with_head : Tables → ℕ → DomainHead → Tables
with_head s i h = with_domains s (set s.domains i (put_head (get_or s.domains i no_domain) h))

unfoldable pub with_slot : Tables → ℕ → ℕ → Slot → Tables
with_slot s i j x = with_domains s (set s.domains i (put_slot (get_or s.domains i no_domain) j x))

unfoldable pub without_domain : Tables → ℕ → Tables
without_domain s i = with_domains s (set s.domains i (empty_domain s.sizes))

unfoldable pub with_region : Tables → ℕ → RegionCapa → Tables
with_region s i r = with_regions s (set s.regions i r)

unfoldable pub with_record : Tables → ℕ → Region → Tables
with_record s i r = with_records s (set s.records i r)

unfoldable pub with_update : Tables → ℕ → Update → Tables
with_update s i u = with_ring s (set s.ring i u)

unfoldable pub with_hash : Tables → ℕ → RegionHash → Tables
with_hash s i h = with_hashes s (set s.hashes i h)

unfoldable pub with_interface : Tables → ℕ → Interface → Tables
with_interface s i x = with_interfaces s (set s.interfaces i x)

unfoldable pub with_mark : Tables → ℕ → ℕ → Tables
with_mark s i m = with_marks s (set s.marks i m)
