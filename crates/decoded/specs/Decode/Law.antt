-- A law: what is read from the tables of a sound state is that state.
use Rattle.std.specs.Prelude.{◌≡◌, refl, ℕ, ◌≤◌, ◌<◌, Bool, true, false, [], eqb, get_or}
use Rattle.std.proofs.Math.Path.{ap}
use Rattle.std.proofs.Common.{◌∙◌, arith}
use Rattle.std.proofs.Math.Option.{Option, none, some}
use Rattle.base.specs.Cases.{lt, ge, cmp}
use Rattle.model.specs.Lists.{one_if, In, at_slot}
use Rattle.model.specs.State as state
use Rattle.model.specs.State.{State}
use Rattle.model.specs.Layout.{link}
use Rattle.model.specs.Sound.{Sound, record_uses, slot_uses}
use Rattle.laws.specs.Stack.{once-at-most, none-beyond}
use Rattle.laws.specs.Tree.Slots.{in-length}
use Rattle.laws.specs.Words.SameTrackers.{first_slot}
use Rattle.tables.specs.declared.Region.{Region}
use Rattle.tables.specs.Tables.{no_domain, no_region, no_record, no_hash, no_interface, region_at, interface_at}
use Rattle.decoded.specs.Rows.{get_or-up}
use Rattle.decoded.specs.Tables.{region_for, region_hash_for, slot_hash, interface_for, record_in, records_for, hashes_for, tables_of}
use Rattle.decoded.specs.Slots.Domains.{domain-row, interface-read}
use Rattle.decoded.specs.Tree.Regions.{region-read}
use Rattle.decoded.specs.Decode.Read.{linked, tracker_from, interface_from, domain_from, domains_from, regions_from, state_of}
use Rattle.decoded.specs.Decode.Pools.{pool-read, table-read}
use Rattle.decoded.specs.Decode.Lists.{list_read}
use Rattle.decoded.specs.Decode.Trackers.{tracker-walked, tracker-fits, tracker-stored}
use Rattle.decoded.specs.Decode.Regions.{region-from}
use Rattle.decoded.specs.Decode.Queue.{queue-read}

link-read : (o : Option ℕ) → linked (link o) ≡ o
link-read none = refl
link-read (some i) = refl

frozen-read : (b : Bool) → eqb (one_if b) 1 ≡ b
frozen-read true = refl
frozen-read false = refl

module _ (s : State) (h : Sound s) where
  pub record-once : (i : ℕ) → record_uses s.domains i ≤ 1
  record-once i = omega (arith, once-at-most s.sizes.records (record_uses s.domains) s.record_pool.free h.tracked.record_pool.once i)

  pub record-beyond : (i : ℕ) → s.sizes.records ≤ i → record_uses s.domains i ≡ 0
  record-beyond i b = omega (arith, none-beyond s.sizes.records (record_uses s.domains) s.record_pool.free h.tracked.record_pool.once i b)

  pub record-row : (i : ℕ) → 0 < record_uses s.domains i → get_or (tables_of s).records i no_record ≡ record_in s.domains i
  unfolding tables_of records_for
  record-row i u = elim (cmp i s.sizes.records) [
    | lt b ↦ get_or-up (record_in s.domains) s.sizes.records i no_record b
    | ge b ↦ absurd (omega (arith, record-beyond i b))
  ]

  region-row : (i : ℕ) (g : state.Region) → In s.regions i g → get_or (tables_of s).regions i no_region ≡ region_for s.regions i (some g)
  unfolding region_at
  region-row i g at = region-read s h.outside.regions_length i g at

  hash-row : (i : ℕ) (g : state.Region) → In s.regions i g → get_or (tables_of s).hashes i no_hash ≡ region_hash_for g.hash
  unfolding tables_of hashes_for
  hash-row i g at = get_or-up (λ j. slot_hash (at_slot s.regions j)) s.sizes.regions i no_hash (omega (arith, in-length s.regions i g at, h.outside.regions_length)) ∙ ap slot_hash at

  interface-row : (d : ℕ) (x : state.Domain) → In s.domains d x → get_or (tables_of s).interfaces d no_interface ≡ interface_for x.interface
  unfolding interface_at
  interface-row d x at = interface-read s h.outside.domains_length d x at

  module _ (d : ℕ) (x : state.Domain) (at : In s.domains d x) where
    tracker-read : tracker_from s.sizes.records (tables_of s).records (link (first_slot x.tracker)) ≡ x.tracker
    tracker-read =
        let f : ℕ → Region = λ i. get_or (tables_of s).records i no_record in
        tracker-walked f s.sizes.records x.tracker (tracker-fits s.domains d x at record-once s.sizes.records record-beyond) (tracker-stored s.domains d x at record-once f record-row [] x.tracker refl)

    interface-from : interface_from (get_or (tables_of s).interfaces d no_interface) ≡ x.interface
    interface-from = ap interface_from (interface-row d x at) ∙ λ i. record { word = x.interface.word; frozen = frozen-read x.interface.frozen i }

    domain-read : domain_from s.sizes.slots s.sizes.records (tables_of s).records (get_or (tables_of s).domains d no_domain) (get_or (tables_of s).interfaces d no_interface) ≡ x
    domain-read =
        let l = h.outside.lists d x at in
        let locals = list_read s.sizes.slots x (record { held_length = l.held_length; once = l.once }) in
        ap (λ y. domain_from s.sizes.slots s.sizes.records (tables_of s).records y (get_or (tables_of s).interfaces d no_interface)) (domain-row s h.outside.domains_length d x at)
        ∙ λ i. record { manager = link-read x.manager i; cores = x.cores; locals = locals i; tracker = tracker-read i; interface = interface-from i }

  domains-read : domains_from (tables_of s) ≡ s.domains
  unfolding domains_from tables_of
  domains-read = table-read s.domains s.sizes.domains h.outside.domains_length s.domain_pool h.outside.domain_pool.once _ domain-read

  regions-read : regions_from (tables_of s) ≡ s.regions
  unfolding regions_from tables_of
  regions-read = table-read s.regions s.sizes.regions h.outside.regions_length s.region_pool h.outside.region_pool.once _ (λ i g at. region-from s.sizes.regions s.regions h.outside.regions_length h.outside.regions (tables_of s).regions region-row i g at (get_or (tables_of s).hashes i no_hash) (hash-row i g at))

  pub decode : state_of (tables_of s) ≡ s
  unfolding state_of tables_of
  decode =
      let dp = pool-read s.sizes.domains (slot_uses s.domains) s.domain_pool h.outside.domain_pool.once in
      let rp = pool-read s.sizes.regions (slot_uses s.regions) s.region_pool h.outside.region_pool.once in
      let tp = pool-read s.sizes.records (record_uses s.domains) s.record_pool h.tracked.record_pool.once in
      let q = queue-read s.sizes.updates s.queue h.queue.read_place h.queue.fits in
      λ i. record { sizes = s.sizes; domain_pool = dp i; region_pool = rp i; record_pool = tp i; domains = domains-read i; regions = regions-read i; queue = q i }
