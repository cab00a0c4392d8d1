-- The sizes that the tables' header holds, and the widths of the tables' sections.
use Rattle.std.specs.Prelude.{ℕ, ◌+◌, ◌*◌, List, [], ◌∷◌, get_or}
use Rattle.words.specs.Cuts.{offset}
use Rattle.sizes.specs.declared.Sizes.{Sizes}

unfoldable pub sizes_of : List ℕ → Sizes
sizes_of t = record { domains = get_or t 0 0; slots = get_or t 1 0; regions = get_or t 2 0; records = get_or t 3 0; updates = get_or t 4 0 }

-- ---- how many words each has: the header; a domain before its slots; a slot; a region; a tracker record; a ring place; a region's hash;
-- a domain's interface; a ring place's marks

abbrev pub header_width : ℕ
header_width = 7

abbrev pub head_width : ℕ
head_width = 5

abbrev pub slot_width : ℕ
slot_width = 3

abbrev pub region_width : ℕ
region_width = 8

abbrev pub record_width : ℕ
record_width = 9

abbrev pub update_width : ℕ
update_width = 4

abbrev pub hash_width : ℕ
hash_width = 5

abbrev pub interface_width : ℕ
interface_width = 2

abbrev pub mark_width : ℕ
mark_width = 1

-- a domain with its slots
abbrev pub stride : Sizes → ℕ
stride z = head_width + z.slots * slot_width

abbrev pub pool_width : ℕ → ℕ
pool_width n = 2 + (n + n)

-- the header's words behind the five sizes: the ring's two places
abbrev pub read_word : ℕ
read_word = 5

abbrev pub write_word : ℕ
write_word = 6

-- how many sections there are
abbrev pub sections : ℕ
sections = 11

-- the place of each in their order
abbrev pub header_section : ℕ
header_section = 0

abbrev pub domain_pool_section : ℕ
domain_pool_section = 1

abbrev pub region_pool_section : ℕ
region_pool_section = 2

abbrev pub record_pool_section : ℕ
record_pool_section = 3

abbrev pub domains_section : ℕ
domains_section = 4

abbrev pub regions_section : ℕ
regions_section = 5

abbrev pub records_section : ℕ
records_section = 6

abbrev pub ring_section : ℕ
ring_section = 7

abbrev pub hash_section : ℕ
hash_section = 8

abbrev pub interface_section : ℕ
interface_section = 9

abbrev pub mark_section : ℕ
mark_section = 10

-- their widths
abbrev pub widths : Sizes → List ℕ
widths z =
    header_width ∷ pool_width z.domains ∷ pool_width z.regions ∷ pool_width z.records ∷ (z.domains * stride z) ∷ (z.regions * region_width) ∷ (z.records * record_width) ∷ ((z.updates + 1) * update_width) ∷ (z.regions * hash_width) ∷ (z.domains * interface_width) ∷ ((z.updates + 1) * mark_width) ∷ []

unfoldable pub total : Sizes → ℕ
unfolding offset
total z = offset (widths z) sections
