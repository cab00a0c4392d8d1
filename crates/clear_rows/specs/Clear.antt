-- Rows by value. docs/TABLES.md: the words of free rows are all zero, and the slots of a list in use are as the kinds say.
use Rattle.std.specs.Prelude.{Bool, eqb, leb}
use Rattle.base.specs.Cases.{pick}
use Rattle.base.specs.Tests.{both}
use Rattle.tables.specs.declared.DomainHead.{DomainHead}
use Rattle.tables.specs.declared.Slot.{Slot}
use Rattle.tables.specs.declared.RegionCapa.{RegionCapa}
use Rattle.tables.specs.declared.Region.{Region}
use Rattle.tables.specs.Kinds.{NONE, FREE, CHANNEL}

unfoldable pub head_clear : DomainHead → Bool
head_clear h = both (both (eqb h.manager 0) (eqb h.cores 0)) (both (eqb h.tracker 0) (both (eqb h.head 0) (eqb h.count 0)))

unfoldable pub slot_clear : Slot → Bool
slot_clear x = both (eqb x.kind 0) (both (eqb x.handle.slot 0) (eqb x.handle.generation 0))

-- the kind is known; no slot word where it is `Capa::None`, no generation where it is that or free
unfoldable pub slot_well_formed : Slot → Bool
slot_well_formed x = pick (leb x.kind FREE) (pick (eqb x.kind NONE) (both (eqb x.handle.generation 0) (eqb x.handle.slot 0)) (eqb x.handle.generation 0)) (leb x.kind CHANNEL)

unfoldable pub region_clear : RegionCapa → Bool
region_clear r =
    both (both (both (eqb r.kind 0) (eqb r.owner 0)) (both (eqb r.parent 0) (eqb r.start 0)))
    (both (both (eqb r.end 0) (eqb r.rights 0)) (both (eqb r.child 0) (eqb r.next 0)))

unfoldable pub record_clear : Region → Bool
record_clear r =
    both (both (both (eqb r.start 0) (eqb r.end 0)) (both (eqb r.ref_count 0) (eqb r.read_count 0)))
    (both (both (eqb r.write_count 0) (eqb r.exec_count 0)) (both (eqb r.super_count 0) (both (eqb r.uncache_count 0) (eqb r.next 0))))

-- a slot of a domain in use, or of one that is free
abbrev pub slot_fits : Bool → Slot → Bool
slot_fits free x = pick free (slot_clear x) (slot_well_formed x)
