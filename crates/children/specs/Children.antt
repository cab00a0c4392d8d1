-- Child lists (document 01, **Child lists**): searches, and a child that joins or leaves.
use Rattle.std.specs.Prelude.{Bool, true, ℕ, zero, suc, ◌%◌, eqb, ltb, leb}
use Rattle.base.specs.Cases.{pick}
use Rattle.base.specs.Tests.{both}
use Rattle.tables.specs.declared.RegionCapa.{RegionCapa}
use Rattle.tables.specs.Kinds.{CARVE}
use Rattle.tables.specs.Tables.{Tables, region_at, with_region, with_next, with_child}
use Rattle.rights.specs.Rights.{allowed}
use Rattle.region.specs.declared.AccessRights.{AccessRights}
use Rattle.tables.specs.Links.{link_to, slot_to}
use Rattle.children.specs.declared.Place.{Place}
use Rattle.children.specs.declared.Overlap.{Overlap}
use Rattle.children.specs.declared.Search.{Search}
use Rattle.children.specs.declared.Search.TheVariants as search

-- ---- searches

-- a range and a region overlap; touching ranges do not (the model's overlaps)
unfoldable pub overlaps_b : Overlap → RegionCapa → Bool
overlaps_b o r = both (pick o.carves (eqb r.kind CARVE) true) (both (ltb o.start r.end) (ltb r.start o.end))

-- the child with link k, region r, ends the search
abbrev pub ends_b : Search → ℕ → RegionCapa → Bool
ends_b (search.After a) k r = ltb a r.start
ends_b (search.Link l) k r = eqb k l
ends_b (search.Overlap o) k r = overlaps_b o r

-- past n children at most
unfoldable pub find_from : Search → Tables → ℕ → Place → Place
find_from w s zero c = c
find_from w s (suc n) c =
    let r = region_at s (slot_to c.at) in
    pick (eqb c.at 0) c (pick (ends_b w c.at r) c (find_from w s n (record { prev = c.at; at = r.next })))

-- among the children of region p
unfoldable pub find : Search → Tables → ℕ → Place
find w s p = find_from w s s.sizes.regions (record { prev = 0; at = (region_at s p).child })

-- ---- a child joins, and leaves

-- link k behind the child prev, or first under region p where prev is 0
unfoldable pub link_child : Tables → ℕ → ℕ → ℕ → Tables
link_child s p prev k =
    pick (eqb prev 0) (with_region s p (with_child (region_at s p) k)) (with_region s (slot_to prev) (with_next (region_at s (slot_to prev)) k))

-- region i joins the children of region p, after those that start where it starts or before (the model's insert_child)
unfoldable pub insert_child : Tables → ℕ → ℕ → Tables
insert_child s p i =
    let c = find (search.After (region_at s i).start) s p in
    link_child (with_region s i (with_next (region_at s i) c.at)) p c.prev (link_to i)

-- region i leaves the children of region p (the model's remove_child)
unfoldable pub remove_child : Tables → ℕ → ℕ → Tables
remove_child s p i =
    let c = find (search.Link (link_to i)) s p in
    link_child (with_region s i (with_next (region_at s i) 0)) p c.prev (region_at s i).next

-- ---- the checks of alias and carve

-- the range lies in region r's, and the rights are allowed under it (the model's fits)
unfoldable pub fits_b : AccessRights → RegionCapa → Bool
fits_b a r = both (both (leb r.start a.start) (leb a.end r.end)) (allowed (r.rights % 256) a.ops.0)

-- no child of region p overlaps; where `carves` holds carves only (the model's check_alias and check_carve)
unfoldable pub check_child : Bool → Tables → ℕ → AccessRights → Bool
check_child carves s p a =
    both (fits_b a (region_at s p)) (eqb (find (search.Overlap (record { start = a.start; end = a.end; carves = carves })) s p).at 0)
