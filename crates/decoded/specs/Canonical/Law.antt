-- A law: well formed tables whose walked lists are as `Walked` says have the words of the state that is read from them.
use Rattle.std.specs.Prelude.{◌≡◌, ℕ, zero, suc, ◌<◌, length}
use Rattle.std.proofs.Math.Path.{sym, ap, subst}
use Rattle.std.proofs.Common.{◌∙◌, arith}
use Rattle.std.proofs.Math.Bool.{true}
use Rattle.std.proofs.Math.Option.{some}
use mathlib.Core.List.{List, [], ◌∷◌, map}
use Rattle.std.proofs.Math.ListN.{get_or}
use Rattle.base.specs.Cases.{lt, ge, cmp, holds, fails, test}
use Rattle.base.specs.Lists.{get_d_any}
use Rattle.model.specs.Lists.{Each, In, count_up}
use Rattle.model.specs.State as state
use Rattle.model.specs.Sound.{record_uses}
use Rattle.tables.specs.Tables.{Tables, no_domain, no_region, no_record, no_hash, no_interface}
use Rattle.decoded.specs.Shape.{Shaped}
use Rattle.decoded.specs.Tables.{domain_for, region_for, slot_hash, slot_interface, record_in, domains_for, regions_for, records_for, hashes_for, interfaces_for, tables_of}
use Rattle.decoded.specs.Tracker.Trackers.{record-unused}
use Rattle.decoded.specs.Decode.Read.{taken, domain_read, region_read, domains_from, regions_from, queue_from, state_of}
use Rattle.decoded.specs.Decode.Walks.{map-up}
use Rattle.decoded.specs.Decode.Trackers.{Stored}
use Rattle.decoded.specs.Canonical.WellFormed.{Canonical, WellFormed, Walked}
use Rattle.decoded.specs.Canonical.Pools.{pool-kept, table-used, table-in, table_kept}
use Rattle.decoded.specs.Canonical.Domains.{domain-kept, interface-kept}
use Rattle.decoded.specs.Canonical.Regions.{hash-kept, region-kept, next-kept}
use Rattle.decoded.specs.Canonical.Records.{walked-stored, record-kept}
use Rattle.decoded.specs.Canonical.Ring.{ring-kept, marks-kept, write_kept}

pub each_at : {A : Type 0} (P : A → Type 0) (l : List A) → Each P l → (i : ℕ) (d : A) → i < length l → P (get_or l i d)
each_at P [] h i d b = absurd (omega arith)
each_at P (x ∷ l) h zero d b = h.0
each_at P (x ∷ l) h (suc i) d b = each_at P l h.1 i d (omega arith)

module _ (v : Tables) (s : Shaped v) (t : WellFormed v) (w : Walked v) where
  -- ---- domains

  domains-kept : domains_for v.sizes.domains v.sizes.slots (domains_from v) ≡ v.domains
  unfolding domains_for domains_from
  domains-kept = table_kept v.sizes.domains v.domain_pool (domain_read v) (λ i o. domain_for v.sizes.slots o) v.domains no_domain s.domains used (λ i b e. sym (t.outside.domains_free i b e))
    where
      used : (i : ℕ) → i < v.sizes.domains → taken v.domain_pool i ≡ true → domain_for v.sizes.slots (some (domain_read v i)) ≡ get_or v.domains i no_domain
      used i b e = domain-kept v.sizes.slots v.sizes.records v.records (get_or v.domains i no_domain) (each_at _ v.domains s.slots i no_domain (omega (arith, s.domains))) (t.outside.domains_used i b e) (t.tracked.trackers_end i b e) (w.outside.slot_marks i b e) (get_or v.interfaces i no_interface)

  interfaces-kept : interfaces_for v.sizes.domains (domains_from v) ≡ v.interfaces
  unfolding interfaces_for domains_from
  interfaces-kept =
      table_kept v.sizes.domains v.domain_pool (domain_read v) (λ i o. slot_interface o) v.interfaces no_interface s.interfaces
      (λ i b e. interface-kept (get_or v.interfaces i no_interface) (t.outside.interfaces_used i b e))
      (λ i b e. sym (t.outside.interfaces_free i b e))

  -- ---- regions

  regions-kept : regions_for v.sizes.regions (regions_from v) ≡ v.regions
  unfolding regions_for regions_from
  regions-kept = table_kept v.sizes.regions v.region_pool (region_read v) (region_for (regions_from v)) v.regions no_region s.regions used (λ i b e. sym (t.outside.regions_free i b e))
    where
      used : (i : ℕ) → i < v.sizes.regions → taken v.region_pool i ≡ true → region_for (regions_from v) i (some (region_read v i)) ≡ get_or v.regions i no_region
      used i b e =
          region-kept v.sizes.regions v.regions (regions_from v) i
          (λ p k q.
          let u = w.outside.parent_taken i p b e k q in
          next-kept v.sizes.regions v.regions (regions_from v) i p (get_or v.hashes p no_hash) (table-used v.sizes.regions v.region_pool (region_read v) p u.0 u.1) (w.outside.children_end p u.0 u.1) (w.outside.listed i p b e k q))
          (t.outside.regions_used i b e) (w.outside.children_end i b e) (get_or v.hashes i no_hash)

  hashes-kept : hashes_for v.sizes.regions (regions_from v) ≡ v.hashes
  unfolding hashes_for regions_from
  hashes-kept =
      table_kept v.sizes.regions v.region_pool (region_read v) (λ i o. slot_hash o) v.hashes no_hash s.hashes
      (λ i b e. hash-kept (get_or v.hashes i no_hash) (t.outside.hashes_used i b e))
      (λ i b e. sym (t.outside.hashes_free i b e))

  -- ---- records

  trackers-stored : (d : ℕ) (x : state.Domain) → In (domains_from v) d x → Stored (λ i. get_or v.records i no_record) x.tracker
  unfolding domains_from
  trackers-stored d x e =
      let u = table-in v.sizes.domains v.domain_pool (domain_read v) d x e in
      subst (λ (y : state.Domain). Stored (λ i. get_or v.records i no_record) y.tracker) u.2 (walked-stored (λ i. get_or v.records i no_record) v.sizes.records (get_or v.domains d no_domain).head.tracker (t.tracked.trackers_end d u.0 u.1))

  record-at : (i : ℕ) → i < v.sizes.records → record_in (domains_from v) i ≡ get_or v.records i no_record
  record-at i b = elim (cmp 0 (record_uses (domains_from v) i)) [
    | lt u ↦ record-kept (λ j. get_or v.records j no_record) (domains_from v) trackers-stored i u
    | ge u ↦ elim (test (taken v.record_pool i)) [
      | holds e ↦ absurd (omega (arith, w.records_used i b e))
      | fails e ↦ record-unused (domains_from v) i (omega arith) ∙ sym (t.tracked.records_free i b e)
    ]
  ]

  records-kept : records_for v.sizes.records (domains_from v) ≡ v.records
  unfolding records_for
  records-kept = ap (λ k. map (record_in (domains_from v)) (count_up 0 k)) (sym s.records) ∙ map-up (record_in (domains_from v)) v.records (λ i b d. record-at i (omega (arith, s.records)) ∙ get_d_any v.records i no_record d b)

  -- ---- the whole

  pub canonical : Canonical v
  unfolding tables_of state_of queue_from
  canonical =
      let dp = pool-kept v.sizes.domains v.domain_pool s.domain_pool.links t.outside.domain_pool w.outside.domain_marks in
      let rp = pool-kept v.sizes.regions v.region_pool s.region_pool.links t.outside.region_pool w.outside.region_marks in
      let tp = pool-kept v.sizes.records v.record_pool s.record_pool.links t.tracked.record_pool t.tracked.record_marks in
      let write = write_kept v.sizes.updates v.read v.write v.ring v.marks s.ring s.marks w.queue.read w.queue.write t.queue.queued t.queue.unqueued in
      let ring = ring-kept v.sizes.updates v.read v.write v.ring v.marks s.ring s.marks w.queue.read w.queue.write t.queue.queued t.queue.unqueued in
      let marks = marks-kept v.sizes.updates v.read v.write v.ring v.marks s.ring s.marks w.queue.read w.queue.write t.queue.queued t.queue.unqueued in
      λ i. record { sizes = v.sizes; read = v.read; write = write i; domain_pool = dp i; region_pool = rp i; record_pool = tp i; domains = domains-kept i; regions = regions-kept i; records = records-kept i; ring = ring i; hashes = hashes-kept i; interfaces = interfaces-kept i; marks = marks i }
