-- The words of the tables read as a structured value, and that value laid out as words.
use Rattle.std.specs.Prelude.{ℕ, ◌+◌, ◌≡◌, List, [], ◌∷◌, ◌++◌, length, get_or, take, drop}
use Rattle.words.specs.Runs.{part}
use Rattle.words.specs.Rows.{rows, flat}
use Rattle.words.specs.Cuts.{cuts, join}
use Rattle.sizes.specs.declared.Sizes.{Sizes}
use Rattle.tables.specs.declared.DomainHead.{DomainHead}
use Rattle.tables.specs.declared.Slot.{Slot}
use Rattle.tables.specs.declared.RegionCapa.{RegionCapa}
use Rattle.tables.specs.declared.Region.{Region}
use Rattle.tables.specs.declared.Update.{Update}
use Rattle.tables.specs.declared.RegionHash.{RegionHash}
use Rattle.tables.specs.declared.Interface.{Interface}
use Rattle.tables.specs.Tables.{Tables, Domain, Arena}
use Rattle.sizes.specs.Limits.{Limits}
use Rattle.sizes.specs.Sizes.{sizes_of, read_word, write_word, head_width, slot_width, region_width, record_width, update_width, hash_width, interface_width, mark_width, stride, header_section, domain_pool_section, region_pool_section, record_pool_section, domains_section, regions_section, records_section, ring_section, hash_section, interface_section, mark_section, widths, total}

-- ---- a record in its words

abbrev pub head_of : List ℕ → DomainHead
head_of p = record { manager = get_or p 0 0; cores = get_or p 1 0; tracker = get_or p 2 0; head = get_or p 3 0; count = get_or p 4 0 }

abbrev pub slot_of : List ℕ → Slot
slot_of p = record { kind = get_or p 0 0; handle = record { slot = get_or p 1 0; generation = get_or p 2 0 } }

abbrev pub region_of : List ℕ → RegionCapa
region_of p =
    record { kind = get_or p 0 0; owner = get_or p 1 0; parent = get_or p 2 0; start = get_or p 3 0; end = get_or p 4 0; rights = get_or p 5 0; child = get_or p 6 0; next = get_or p 7 0 }

abbrev pub record_of : List ℕ → Region
record_of p =
    record { start = get_or p 0 0; end = get_or p 1 0; ref_count = get_or p 2 0; read_count = get_or p 3 0; write_count = get_or p 4 0; exec_count = get_or p 5 0; super_count = get_or p 6 0; uncache_count = get_or p 7 0; next = get_or p 8 0 }

abbrev pub update_of : List ℕ → Update
update_of p = record { kind = get_or p 0 0; a = get_or p 1 0; b = get_or p 2 0; c = get_or p 3 0 }

abbrev pub hash_of : List ℕ → RegionHash
hash_of p = record { given = get_or p 0 0; word0 = get_or p 1 0; word1 = get_or p 2 0; word2 = get_or p 3 0; word3 = get_or p 4 0 }

abbrev pub interface_of : List ℕ → Interface
interface_of p = record { word = get_or p 0 0; frozen = get_or p 1 0 }

abbrev pub mark_of : List ℕ → ℕ
mark_of p = get_or p 0 0

-- a pool over n slots
unfoldable pub arena_of : ℕ → List ℕ → Arena
arena_of n p = record { head = get_or p 0 0; count = get_or p 1 0; links = part p 2 n; gens = part p (2 + n) n }

-- a domain with n slots
unfoldable pub domain_of : ℕ → List ℕ → Domain
domain_of n p = record { head = head_of (take head_width p); slots = rows slot_width n slot_of (drop head_width p) }

-- ---- the whole

unfoldable pub of_parts : Sizes → List (List ℕ) → Tables
of_parts z ps =
    record {
      sizes = z;
      read = get_or (get_or ps header_section []) read_word 0;
      write = get_or (get_or ps header_section []) write_word 0;
      domain_pool = arena_of z.domains (get_or ps domain_pool_section []);
      region_pool = arena_of z.regions (get_or ps region_pool_section []);
      record_pool = arena_of z.records (get_or ps record_pool_section []);
      domains = rows (stride z) z.domains (domain_of z.slots) (get_or ps domains_section []);
      regions = rows region_width z.regions region_of (get_or ps regions_section []);
      records = rows record_width z.records record_of (get_or ps records_section []);
      ring = rows update_width (z.updates + 1) update_of (get_or ps ring_section []);
      hashes = rows hash_width z.regions hash_of (get_or ps hash_section []);
      interfaces = rows interface_width z.domains interface_of (get_or ps interface_section []);
      marks = rows mark_width (z.updates + 1) mark_of (get_or ps mark_section []);
    }

unfoldable pub view : List ℕ → Tables
view t = of_parts (sizes_of t) (cuts (widths (sizes_of t)) t)

-- the words are as many as the sizes in their header ask, and these lie in their limits
pub record Sized (t : List ℕ) : Type 0 where
  pub limits : Limits (sizes_of t)
  pub exact : length t ≡ total (sizes_of t)

-- what a change leaves: sized words with the view s
pub record Left (t : List ℕ) (s : Tables) : Type 0 where
  pub seen : view t ≡ s
  pub sized : Sized t

-- ---- and back

abbrev pub head_words : DomainHead → List ℕ
head_words h = h.manager ∷ h.cores ∷ h.tracker ∷ h.head ∷ h.count ∷ []

abbrev pub slot_words : Slot → List ℕ
slot_words x = x.kind ∷ x.handle.slot ∷ x.handle.generation ∷ []

abbrev pub region_words : RegionCapa → List ℕ
region_words r = r.kind ∷ r.owner ∷ r.parent ∷ r.start ∷ r.end ∷ r.rights ∷ r.child ∷ r.next ∷ []

abbrev pub record_words : Region → List ℕ
record_words r =
    r.start ∷ r.end ∷ r.ref_count ∷ r.read_count ∷ r.write_count ∷ r.exec_count ∷ r.super_count ∷ r.uncache_count ∷ r.next ∷ []

abbrev pub update_words : Update → List ℕ
update_words u = u.kind ∷ u.a ∷ u.b ∷ u.c ∷ []

abbrev pub hash_words : RegionHash → List ℕ
hash_words h = h.given ∷ h.word0 ∷ h.word1 ∷ h.word2 ∷ h.word3 ∷ []

abbrev pub interface_words : Interface → List ℕ
interface_words x = x.word ∷ x.frozen ∷ []

abbrev pub mark_words : ℕ → List ℕ
mark_words m = m ∷ []

unfoldable pub arena_words : Arena → List ℕ
arena_words a = a.head ∷ a.count ∷ a.links ++ a.gens

unfoldable pub domain_words : Domain → List ℕ
domain_words d = head_words d.head ++ flat slot_words d.slots

unfoldable pub header_words : Tables → List ℕ
header_words s =
    s.sizes.domains ∷ s.sizes.slots ∷ s.sizes.regions ∷ s.sizes.records ∷ s.sizes.updates ∷ s.read ∷ s.write ∷ []

unfoldable pub parts_of : Tables → List (List ℕ)
parts_of s =
    header_words s ∷ arena_words s.domain_pool ∷ arena_words s.region_pool ∷ arena_words s.record_pool ∷ flat domain_words s.domains ∷ flat region_words s.regions ∷ flat record_words s.records ∷ flat update_words s.ring ∷ flat hash_words s.hashes ∷ flat interface_words s.interfaces ∷ flat mark_words s.marks ∷ []

unfoldable pub layout : Tables → List ℕ
layout s = join (parts_of s)
