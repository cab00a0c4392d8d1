-- The tables of a sound state are well formed.
use Rattle.std.specs.Prelude.{◌≡◌, refl, ℕ, ◌+◌, ◌≤◌, ◌<◌, true, false, not, List, [], eqb, length, get_or}
use Rattle.std.proofs.Common.{sym, ◌∙◌, arith, lt-ltb}
use Rattle.std.proofs.Math.Path.{ap, subst}
use Rattle.std.proofs.Math.Option.{Option, none, some}
use Rattle.base.specs.Cases.{lt, ge, cmp}
use Rattle.base.specs.Tests.{true-is, false-is}
use Rattle.base.specs.Rounds.{along-at}
use Rattle.model.specs.Lists.{one_if, is_some, exists, count_if, at_slot, In, first_of}
use Rattle.model.specs.State as state
use Rattle.model.specs.State.{State, Pool, Capa, no_capa, region, region_revoke, management, channel, Kind, Root, Alias, Carve, permission, cleanup}
use Rattle.model.specs.Layout.{slot_or0, at_place}
use Rattle.model.specs.Sound.{Sound, OnceEach, slot_uses, record_uses}
use Rattle.laws.specs.Stack.{one_at_most, once-at-most}
use Rattle.laws.specs.Words.SameDomains.{Listed}
use Rattle.tables.specs.declared.Update.{Update}
use Rattle.tables.specs.Tables.{Domain, no_domain, no_slot, no_region, no_record, no_update, no_hash, no_interface}
use Rattle.decoded.specs.Rows.{get_or-up}
use Rattle.decoded.specs.Tracker.Trackers.{record-unused}
use Rattle.decoded.specs.Tables.{pool_of, slot_for, slots_for, domain_for, region_for, region_hash_for, slot_hash, interface_for, slot_interface, record_in, update_for, place_for, mark_for, domains_for, regions_for, records_for, ring_for, hashes_for, interfaces_for, marks_for, tables_of}
use Rattle.decoded.specs.Decode.Read.{after_free, taken, after_slot}
use Rattle.decoded.specs.Decode.Pools.{pool-stacked, steps, free-read, taken-used, taken_free}
use Rattle.decoded.specs.Decode.Lists.{list-stacked, list_steps}
use Rattle.decoded.specs.Decode.Trackers.{tracker-fits, tracker-stored}
use Rattle.decoded.specs.Decode.Queue.{elem_at}
use Rattle.decoded.specs.Decode.Places.{along}
use Rattle.decoded.specs.Decode.Law.{record-once, record-beyond, record-row}
use Rattle.decoded.specs.Canonical.Ends.{stack_end, chain_end, stacked-ends}
use Rattle.decoded.specs.Canonical.WellFormed.{PoolWellFormed, Marked, SlotWellFormed, DomainWellFormed, RegionWellFormed, HashWellFormed, InterfaceWellFormed, UpdateWellFormed, WellFormed}
use Rattle.decoded.specs.Canonical.Pools.{not_on, on}
use Rattle.decoded.specs.Canonical.Records.{stored-ends}
use Rattle.decoded.specs.Queue.Ring.{beyond}

-- ---- pools

module _ (n : ℕ) (used : ℕ → ℕ) (p : Pool) (h : OnceEach n used p.free) where
  pool-well-formed : PoolWellFormed n (pool_of n p)
  unfolding pool_of
  pool-well-formed = record {
    fits = omega arith;
    ends = ap (λ k. stack_end (after_free (pool_of n p).links) k (slot_or0 (first_of p.free))) (steps n used p h) ∙ stacked-ends (after_free (pool_of n p).links) p.free (pool-stacked n used p h);
  }

  pool-marked : Marked n (pool_of n p)
  pool-marked i b = elim (cmp 0 (count_if (eqb i) p.free)) [
    | lt o ↦ taken_free n used p h i b (omega (arith, once-at-most n used p.free h i)) ∙ sym (ap (λ l. not (exists (eqb i) l)) (free-read n used p h) ∙ on p.free i o)
    | ge o ↦ taken-used n used p h i b (omega (arith, h i, ap one_if (lt-ltb i n b))) ∙ sym (ap (λ l. not (exists (eqb i) l)) (free-read n used p h) ∙ not_on p.free i (omega arith))
  ]

-- a slot that is taken is in use, and one that is not is free
module _ {A : Type 0} (n : ℕ) (l : List (Option A)) (p : Pool) (h : OnceEach n (slot_uses l) p.free) (i : ℕ) (b : i < n) where
  taken_in : taken (pool_of n p) i ≡ true → (x : A) × In l i x
  taken_in t = go (at_slot l i) refl
    where
      go : (o : Option A) → at_slot l i ≡ o → (x : A) × In l i x
      go none e = absurd (false-is (taken_free n (slot_uses l) p h i b (ap (λ o. one_if (is_some o)) e)) (true-is t))
      go (some x) e = (x, e)

  free_in : taken (pool_of n p) i ≡ false → at_slot l i ≡ none
  free_in t = go (at_slot l i) refl
    where
      go : (o : Option A) → at_slot l i ≡ o → at_slot l i ≡ none
      go none e = e
      go (some x) e = absurd (false-is t (true-is (taken-used n (slot_uses l) p h i b (ap (λ o. one_if (is_some o)) e))))

-- ---- rows

slot-well-formed : (free : List ℕ) (j : ℕ) (o : Option Capa) → SlotWellFormed (slot_for free j o)
slot-well-formed free j none = record { kind_known = omega arith; none_clear = λ e. absurd (omega arith); generation_clear = λ e. refl }
slot-well-formed free j (some no_capa) = record { kind_known = omega arith; none_clear = λ e. refl; generation_clear = λ e. refl }
slot-well-formed free j (some (region h)) = record { kind_known = omega arith; none_clear = λ e. absurd (omega arith); generation_clear = λ e. absurd (omega arith) }
slot-well-formed free j (some (region_revoke h)) = record { kind_known = omega arith; none_clear = λ e. absurd (omega arith); generation_clear = λ e. absurd (omega arith) }
slot-well-formed free j (some (management h)) = record { kind_known = omega arith; none_clear = λ e. absurd (omega arith); generation_clear = λ e. absurd (omega arith) }
slot-well-formed free j (some (channel h)) = record { kind_known = omega arith; none_clear = λ e. absurd (omega arith); generation_clear = λ e. absurd (omega arith) }

region-go : (rs : List (Option state.Region)) (i : ℕ) (k : Kind) (g : state.Region) → g.kind ≡ k → RegionWellFormed (region_for rs i (some g))
region-go rs i Root g e = rw e (record { kind_low = omega arith; kind_high = omega arith; owned = omega arith; root_parent = λ z. refl; root_next = λ z. refl; child_parent = λ z. absurd (omega arith) })
region-go rs i (Alias p) g e = rw e (record { kind_low = omega arith; kind_high = omega arith; owned = omega arith; root_parent = λ z. absurd (omega arith); root_next = λ z. absurd (omega arith); child_parent = λ z. omega arith })
region-go rs i (Carve p) g e = rw e (record { kind_low = omega arith; kind_high = omega arith; owned = omega arith; root_parent = λ z. absurd (omega arith); root_next = λ z. absurd (omega arith); child_parent = λ z. omega arith })

hash-well-formed : (o : Option state.Hash) → HashWellFormed (region_hash_for o)
hash-well-formed none = record { given_bit = omega arith; none_clear = λ e. refl }
hash-well-formed (some x) = record { given_bit = omega arith; none_clear = λ e. absurd (omega arith) }

interface-well-formed : (f : state.Interface) → InterfaceWellFormed (interface_for f)
interface-well-formed f = one_at_most f.frozen

update-well-formed : (u : state.Update) → UpdateWellFormed (update_for (some u)) (mark_for (some u))
update-well-formed (permission h c m) = record { kind_low = omega arith; kind_high = omega arith; cleanup_clear = λ e. absurd (omega arith); cleanup_marks = λ e. absurd (omega arith) }
update-well-formed (cleanup a b) = record { kind_low = omega arith; kind_high = omega arith; cleanup_clear = λ e. refl; cleanup_marks = λ e. refl }

-- ---- the whole

module _ (s : State) (h : Sound s) where
  domain-row : (i : ℕ) → i < s.sizes.domains → get_or (tables_of s).domains i no_domain ≡ domain_for s.sizes.slots (at_slot s.domains i)
  unfolding tables_of domains_for
  domain-row i b = get_or-up (λ j. domain_for s.sizes.slots (at_slot s.domains j)) s.sizes.domains i no_domain b

  region-row : (i : ℕ) → i < s.sizes.regions → get_or (tables_of s).regions i no_region ≡ region_for s.regions i (at_slot s.regions i)
  unfolding tables_of regions_for
  region-row i b = get_or-up (λ j. region_for s.regions j (at_slot s.regions j)) s.sizes.regions i no_region b

  hash-row : (i : ℕ) → i < s.sizes.regions → get_or (tables_of s).hashes i no_hash ≡ slot_hash (at_slot s.regions i)
  unfolding tables_of hashes_for
  hash-row i b = get_or-up (λ j. slot_hash (at_slot s.regions j)) s.sizes.regions i no_hash b

  interface-row : (i : ℕ) → i < s.sizes.domains → get_or (tables_of s).interfaces i no_interface ≡ slot_interface (at_slot s.domains i)
  unfolding tables_of interfaces_for
  interface-row i b = get_or-up (λ j. slot_interface (at_slot s.domains j)) s.sizes.domains i no_interface b

  place-row : (k : ℕ) → k < s.sizes.updates + 1 → get_or (tables_of s).ring k no_update ≡ place_for s.sizes.updates s.queue k
  unfolding tables_of ring_for
  place-row k b = get_or-up (place_for s.sizes.updates s.queue) (s.sizes.updates + 1) k no_update b

  mark-row : (k : ℕ) → k < s.sizes.updates + 1 → get_or (tables_of s).marks k 0 ≡ mark_for (at_place s.sizes.updates s.queue k)
  unfolding tables_of marks_for
  mark-row k b = get_or-up (λ i. mark_for (at_place s.sizes.updates s.queue i)) (s.sizes.updates + 1) k 0 b

  domain-well-formed : (i : ℕ) (x : state.Domain) → In s.domains i x → DomainWellFormed s.sizes.slots (domain_for s.sizes.slots (some x))
  domain-well-formed i x at =
      let m = s.sizes.slots in
      let l = x.locals in
      let y = h.outside.lists i x at in
      let listed : Listed m l = record { held_length = y.held_length; once = y.once } in
      record {
        fits = omega arith;
        ends = ap (λ k. stack_end (after_slot (slots_for m l)) k (slot_or0 (first_of l.free))) (list_steps m l listed) ∙ stacked-ends (after_slot (slots_for m l)) l.free (list-stacked m l listed);
        slots = λ j b. subst SlotWellFormed (sym (get_or-up (λ k. slot_for l.free k (at_slot l.held k)) m j no_slot b)) (slot-well-formed l.free j (at_slot l.held j));
      }

  tracker-ends : (i : ℕ) (x : state.Domain) → In s.domains i x → chain_end (λ k. (get_or (tables_of s).records k no_record).next) s.sizes.records (domain_for s.sizes.slots (some x)).head.tracker ≡ 0
  tracker-ends i x at = stored-ends (λ k. get_or (tables_of s).records k no_record) s.sizes.records x.tracker (tracker-fits s.domains i x at (record-once s h) s.sizes.records (record-beyond s h)) (tracker-stored s.domains i x at (record-once s h) (λ k. get_or (tables_of s).records k no_record) (record-row s h) [] x.tracker refl)

  -- how many are queued
  behind : along (s.sizes.updates + 1) (tables_of s).read (tables_of s).write ≡ length s.queue.items
  unfolding tables_of
  behind = along-at (s.sizes.updates + 1) s.queue.read_place h.queue.read_place (length s.queue.items) h.queue.fits

  -- what a place and its mark are, by what is queued there
  pair_row : (P : Update → ℕ → Type 0) (k : ℕ) → k < s.sizes.updates + 1 → (o : Option state.Update) → at_place s.sizes.updates s.queue k ≡ o → P (update_for o) (mark_for o) → P (get_or (tables_of s).ring k no_update) (get_or (tables_of s).marks k 0)
  pair_row P k b o e p =
      subst (P (get_or (tables_of s).ring k no_update)) (sym (mark-row k b ∙ ap mark_for e)) (subst (λ u. P u (mark_for o)) (sym (place-row k b ∙ ap update_for e)) p)

  is-queued : (k : ℕ) → k < s.sizes.updates + 1 → along (s.sizes.updates + 1) s.queue.read_place k < length s.queue.items → UpdateWellFormed (get_or (tables_of s).ring k no_update) (get_or (tables_of s).marks k 0)
  is-queued k b o =
      let j = along (s.sizes.updates + 1) s.queue.read_place k in
      let u = get_or s.queue.items j (cleanup 0 0) in
      pair_row UpdateWellFormed k b (some u) (elem_at s.queue.items j (cleanup 0 0) o) (update-well-formed u)

  is-unqueued : (k : ℕ) → k < s.sizes.updates + 1 → length s.queue.items ≤ along (s.sizes.updates + 1) s.queue.read_place k → (get_or (tables_of s).ring k no_update ≡ no_update) × (get_or (tables_of s).marks k 0 ≡ 0)
  is-unqueued k b o =
      let e = beyond s.queue.items (along (s.sizes.updates + 1) s.queue.read_place k) o in
      (place-row k b ∙ ap update_for e, mark-row k b ∙ ap mark_for e)

  free-record : (i : ℕ) → i < s.sizes.records → taken (pool_of s.sizes.records s.record_pool) i ≡ false → get_or (tables_of s).records i no_record ≡ no_record
  unfolding tables_of records_for
  free-record i b t =
      get_or-up (record_in s.domains) s.sizes.records i no_record b
      ∙ elim (cmp 0 (record_uses s.domains i)) [
        | lt o ↦ absurd (false-is t (true-is (taken-used s.sizes.records (record_uses s.domains) s.record_pool h.tracked.record_pool.once i b (omega (arith, record-once s h i)))))
        | ge o ↦ record-unused s.domains i (omega arith)
      ]

  pub tables-well-formed : WellFormed (tables_of s)
  unfolding tables_of
  tables-well-formed = record {
    outside = record {
      domain_pool = pool-well-formed s.sizes.domains (slot_uses s.domains) s.domain_pool h.outside.domain_pool.once;
      region_pool = pool-well-formed s.sizes.regions (slot_uses s.regions) s.region_pool h.outside.region_pool.once;
      domains_used = λ i b t.
          let x = taken_in s.sizes.domains s.domains s.domain_pool h.outside.domain_pool.once i b t in
          subst (DomainWellFormed s.sizes.slots) (sym (domain-row i b ∙ ap (domain_for s.sizes.slots) x.1)) (domain-well-formed i x.0 x.1);
      domains_free = λ i b t. domain-row i b ∙ ap (domain_for s.sizes.slots) (free_in s.sizes.domains s.domains s.domain_pool h.outside.domain_pool.once i b t);
      regions_used = λ i b t.
          let x = taken_in s.sizes.regions s.regions s.region_pool h.outside.region_pool.once i b t in
          subst RegionWellFormed (sym (region-row i b ∙ ap (region_for s.regions i) x.1)) (region-go s.regions i x.0.kind x.0 refl);
      regions_free = λ i b t. region-row i b ∙ ap (region_for s.regions i) (free_in s.sizes.regions s.regions s.region_pool h.outside.region_pool.once i b t);
      hashes_used = λ i b t.
          let x = taken_in s.sizes.regions s.regions s.region_pool h.outside.region_pool.once i b t in
          subst HashWellFormed (sym (hash-row i b ∙ ap slot_hash x.1)) (hash-well-formed x.0.hash);
      hashes_free = λ i b t. hash-row i b ∙ ap slot_hash (free_in s.sizes.regions s.regions s.region_pool h.outside.region_pool.once i b t);
      interfaces_used = λ i b t.
          let x = taken_in s.sizes.domains s.domains s.domain_pool h.outside.domain_pool.once i b t in
          subst InterfaceWellFormed (sym (interface-row i b ∙ ap slot_interface x.1)) (interface-well-formed x.0.interface);
      interfaces_free = λ i b t. interface-row i b ∙ ap slot_interface (free_in s.sizes.domains s.domains s.domain_pool h.outside.domain_pool.once i b t);
    };
    tracked = record {
      record_pool = pool-well-formed s.sizes.records (record_uses s.domains) s.record_pool h.tracked.record_pool.once;
      record_marks = pool-marked s.sizes.records (record_uses s.domains) s.record_pool h.tracked.record_pool.once;
      trackers_end = λ i b t.
          let x = taken_in s.sizes.domains s.domains s.domain_pool h.outside.domain_pool.once i b t in
          subst (λ (y : Domain). chain_end (λ k. (get_or (tables_of s).records k no_record).next) s.sizes.records y.head.tracker ≡ 0) (sym (domain-row i b ∙ ap (domain_for s.sizes.slots) x.1)) (tracker-ends i x.0 x.1);
      records_free = free-record;
    };
    queue = record { queued = λ k b o. is-queued k b (omega (arith, behind)); unqueued = λ k b o. is-unqueued k b (omega (arith, behind)) };
  }
