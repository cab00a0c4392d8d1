-- A record whose words are all 0 is the one that is not there: what a derived `default` gives.
use Rattle.std.specs.Prelude.{◌≡◌}
use Rattle.std.proofs.Common.{rules}
use Rattle.tables.specs.declared.Slot.{Slot}
use Rattle.tables.specs.declared.DomainHead.{DomainHead}
use Rattle.tables.specs.declared.RegionCapa.{RegionCapa}
use Rattle.tables.specs.declared.Region.{Region}
use Rattle.tables.specs.declared.Update.{Update}
use Rattle.tables.specs.declared.RegionHash.{RegionHash}
use Rattle.tables.specs.declared.Interface.{Interface}
use Rattle.tables.specs.Tables.{no_slot, no_head, no_region, no_record, no_update, no_hash, no_interface}

pub slot-zero : (x : Slot) → (x.kind ≡ 0) × ((x.handle.slot ≡ 0) × (x.handle.generation ≡ 0)) → x ≡ no_slot
slot-zero x h = search rules

pub head-zero : (x : DomainHead) → (x.manager ≡ 0) × ((x.cores ≡ 0) × ((x.tracker ≡ 0) × ((x.head ≡ 0) × (x.count ≡ 0)))) → x ≡ no_head
head-zero x h = search rules

pub region-zero : (x : RegionCapa) → (x.kind ≡ 0) × ((x.owner ≡ 0) × ((x.parent ≡ 0) × ((x.start ≡ 0) × ((x.end ≡ 0) × ((x.rights ≡ 0) × ((x.child ≡ 0) × (x.next ≡ 0))))))) → x ≡ no_region
region-zero x h = search rules

pub record-zero : (x : Region) → (x.start ≡ 0) × ((x.end ≡ 0) × ((x.ref_count ≡ 0) × ((x.read_count ≡ 0) × ((x.write_count ≡ 0) × ((x.exec_count ≡ 0) × ((x.super_count ≡ 0) × ((x.uncache_count ≡ 0) × (x.next ≡ 0)))))))) → x ≡ no_record
record-zero x h = search rules

pub update-zero : (x : Update) → (x.kind ≡ 0) × ((x.a ≡ 0) × ((x.b ≡ 0) × (x.c ≡ 0))) → x ≡ no_update
update-zero x h = search rules

pub hash-zero : (x : RegionHash) → (x.given ≡ 0) × ((x.word0 ≡ 0) × ((x.word1 ≡ 0) × ((x.word2 ≡ 0) × (x.word3 ≡ 0)))) → x ≡ no_hash
hash-zero x h = search rules

pub interface-zero : (x : Interface) → (x.word ≡ 0) × (x.frozen ≡ 0) → x ≡ no_interface
interface-zero x h = search rules
