-- The tests of rows: all zero, or as the kinds say.
use Rattle.std.specs.Prelude.{◌≡◌, ℕ, ◌<◌, true, eqb, leb, length, get_or, replicate}
use Rattle.std.proofs.Common.{sym, ap, ◌∙◌, arith, leb-true, eqb-true, le-leb, eq-eqb, ne_eqb, ext_get_or}
use Rattle.std.proofs.Math.Option.{none}
use Rattle.std.proofs.Math.Decide.{ℕ_discrete}
use Rattle.std.proofs.lemmas.Bool.{lt-leb}
use Rattle.std.proofs.lemmas.List.{length-replicate, get_or-replicate}
use Rattle.base.specs.Cases.{lt, ge, cmp, pick}
use Rattle.base.specs.Tests.{both, both_true}
use Rattle.tables.specs.declared.DomainHead.{DomainHead}
use Rattle.tables.specs.declared.Slot.{Slot}
use Rattle.tables.specs.declared.RegionCapa.{RegionCapa}
use Rattle.tables.specs.declared.Region.{Region}
use Rattle.tables.specs.Tables.{Domain, no_head, no_slot, no_region, no_record}
use Rattle.decoded.specs.Tables.{domain_for}
use Rattle.decoded.specs.Canonical.WellFormed.{SlotWellFormed}
use Rattle.clear_rows.specs.Clear.{head_clear, slot_clear, slot_well_formed, region_clear, record_clear}

-- ---- all zero

two : (a b : ℕ) → both (eqb a 0) (eqb b 0) ≡ true → (a ≡ 0) × (b ≡ 0)
two a b h = let p = both_true (eqb a 0) (eqb b 0) h in (eqb-true a 0 p.0, eqb-true b 0 p.1)

pub head-zero : (h : DomainHead) → head_clear h ≡ true → h ≡ no_head
unfolding head_clear
head-zero h t =
    let p = both_true (both (eqb h.manager 0) (eqb h.cores 0)) _ t in
    let a = two h.manager h.cores p.0 in
    let q = both_true (eqb h.tracker 0) _ p.1 in
    let b = eqb-true h.tracker 0 q.0 in
    let c = two h.head h.count q.1 in
    λ i. record { manager = a.0 i; cores = a.1 i; tracker = b i; head = c.0 i; count = c.1 i }

pub zero-head : (h : DomainHead) → h ≡ no_head → head_clear h ≡ true
unfolding head_clear
zero-head h e = ap head_clear e

pub slot-zero : (x : Slot) → slot_clear x ≡ true → x ≡ no_slot
unfolding slot_clear
slot-zero x t =
    let p = both_true (eqb x.kind 0) _ t in
    let a = eqb-true x.kind 0 p.0 in
    let b = two x.handle.slot x.handle.generation p.1 in
    λ i. record { kind = a i; handle = record { slot = b.0 i; generation = b.1 i } }

pub zero-slot : (x : Slot) → x ≡ no_slot → slot_clear x ≡ true
unfolding slot_clear
zero-slot x e = ap slot_clear e

pub region-zero : (r : RegionCapa) → region_clear r ≡ true → r ≡ no_region
unfolding region_clear
region-zero r t =
    let p = both_true (both (both (eqb r.kind 0) (eqb r.owner 0)) (both (eqb r.parent 0) (eqb r.start 0))) _ t in
    let p₁ = both_true (both (eqb r.kind 0) (eqb r.owner 0)) _ p.0 in
    let p₂ = both_true (both (eqb r.end 0) (eqb r.rights 0)) _ p.1 in
    let a = two r.kind r.owner p₁.0 in
    let b = two r.parent r.start p₁.1 in
    let c = two r.end r.rights p₂.0 in
    let d = two r.child r.next p₂.1 in
    λ i. record { kind = a.0 i; owner = a.1 i; parent = b.0 i; start = b.1 i; end = c.0 i; rights = c.1 i; child = d.0 i; next = d.1 i }

pub zero-region : (r : RegionCapa) → r ≡ no_region → region_clear r ≡ true
unfolding region_clear
zero-region r e = ap region_clear e

pub record-zero : (r : Region) → record_clear r ≡ true → r ≡ no_record
unfolding record_clear
record-zero r t =
    let p = both_true (both (both (eqb r.start 0) (eqb r.end 0)) (both (eqb r.ref_count 0) (eqb r.read_count 0))) _ t in
    let p₁ = both_true (both (eqb r.start 0) (eqb r.end 0)) _ p.0 in
    let p₂ = both_true (both (eqb r.write_count 0) (eqb r.exec_count 0)) _ p.1 in
    let p₃ = both_true (eqb r.super_count 0) _ p₂.1 in
    let a = two r.start r.end p₁.0 in
    let b = two r.ref_count r.read_count p₁.1 in
    let c = two r.write_count r.exec_count p₂.0 in
    let d = eqb-true r.super_count 0 p₃.0 in
    let e = two r.uncache_count r.next p₃.1 in
    λ i. record { start = a.0 i; end = a.1 i; ref_count = b.0 i; read_count = b.1 i; write_count = c.0 i; exec_count = c.1 i; super_count = d i; uncache_count = e.0 i; next = e.1 i }

pub zero-record : (r : Region) → r ≡ no_record → record_clear r ≡ true
unfolding record_clear
zero-record r e = ap record_clear e

-- a domain's row
pub domain-zero : (m : ℕ) (x : Domain) → length x.slots ≡ m → head_clear x.head ≡ true → ((j : ℕ) → j < m → slot_clear (get_or x.slots j no_slot) ≡ true) → x ≡ domain_for m none
domain-zero m x e h k =
    let a = head-zero x.head h in
    let b = ext_get_or no_slot x.slots (replicate m no_slot) (e ∙ sym (length-replicate m no_slot)) (λ j l. slot-zero (get_or x.slots j no_slot) (k j (omega arith)) ∙ sym (get_or-replicate m j no_slot no_slot (omega arith))) in
    λ i. record { head = a i; slots = b i }

pub zero-domain-head : (m : ℕ) (x : Domain) → x ≡ domain_for m none → head_clear x.head ≡ true
zero-domain-head m x e = zero-head x.head (ap (λ (y : Domain). y.head) e)

pub zero-domain-slot : (m : ℕ) (x : Domain) → x ≡ domain_for m none → (j : ℕ) → j < m → slot_clear (get_or x.slots j no_slot) ≡ true
zero-domain-slot m x e j b = zero-slot (get_or x.slots j no_slot) (ap (λ (y : Domain). get_or y.slots j no_slot) e ∙ get_or-replicate m j no_slot no_slot b)

-- ---- a slot of a list in use

pub slot-well-formed : (x : Slot) → slot_well_formed x ≡ true → SlotWellFormed x
unfolding slot_well_formed
slot-well-formed x t = elim (cmp 1 x.kind) [
  | lt b ↦
      let h = leb-true x.kind 5 (sym (ap (λ q. pick q (pick (eqb x.kind 0) (both (eqb x.handle.generation 0) (eqb x.handle.slot 0)) (eqb x.handle.generation 0)) (leb x.kind 5)) (lt-leb x.kind 1 b)) ∙ t) in
      record { kind_known = h; none_clear = λ e. absurd (omega arith); generation_clear = λ e. absurd (omega arith) }
  | ge b ↦
      let h = sym (ap (λ q. pick q (pick (eqb x.kind 0) (both (eqb x.handle.generation 0) (eqb x.handle.slot 0)) (eqb x.handle.generation 0)) (leb x.kind 5)) (le-leb x.kind 1 b)) ∙ t in
      elim (ℕ_discrete x.kind 0) [
        | yes z ↦
            let p = two x.handle.generation x.handle.slot (sym (ap (λ q. pick q (both (eqb x.handle.generation 0) (eqb x.handle.slot 0)) (eqb x.handle.generation 0)) (eq-eqb x.kind 0 z)) ∙ h) in
            record { kind_known = omega arith; none_clear = λ e. p.1; generation_clear = λ e. p.0 }
        | no ne ↦
            let p = eqb-true x.handle.generation 0 (sym (ap (λ q. pick q (both (eqb x.handle.generation 0) (eqb x.handle.slot 0)) (eqb x.handle.generation 0)) (ne_eqb x.kind 0 ne)) ∙ h) in
            record { kind_known = omega arith; none_clear = λ e. absurd (ne e); generation_clear = λ e. p }
      ]
]

pub well-formed-slot : (x : Slot) → SlotWellFormed x → slot_well_formed x ≡ true
unfolding slot_well_formed
well-formed-slot x t = elim (cmp 1 x.kind) [
  | lt b ↦ rw (lt-leb x.kind 1 b) (le-leb x.kind 5 t.kind_known)
  | ge b ↦ elim (ℕ_discrete x.kind 0) [
    | yes z ↦ rw (le-leb x.kind 1 b, eq-eqb x.kind 0 z, eq-eqb x.handle.generation 0 (t.generation_clear b)) (eq-eqb x.handle.slot 0 (t.none_clear z))
    | no ne ↦ rw (le-leb x.kind 1 b, ne_eqb x.kind 0 ne) (eq-eqb x.handle.generation 0 (t.generation_clear b))
  ]
]
