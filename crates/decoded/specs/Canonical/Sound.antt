-- Where the state that is read is sound, the walked lists are as `Walked` says: soundness tells the free slots from those in use, has each region in
-- its parent's list, and each record in a tracker or free; and a region has fewer children than there are regions, so that the walk ends.
use Rattle.std.specs.Prelude.{◌≡◌, ℕ, zero, suc, ◌+◌, ◌≤◌, ◌<◌, true, eqb}
use Rattle.std.proofs.Math.Path.{refl, ap}
use Rattle.std.proofs.Common.{sym, ◌∙◌, lt-ltb}
use Rattle.std.proofs.Math.Option.{some}
use native.Mathlib.Omega.{arith}
use Rattle.std.proofs.Math.ListN.{length, get_or, length-map}
use Rattle.base.specs.Cases.{lt, ge, cmp, holds, fails, test}
use Rattle.base.specs.Tests.{true-is, false-is}
use Rattle.model.specs.Lists.{one_if, is_some, count_if, at_slot, In}
use Rattle.model.specs.State as state
use Rattle.model.specs.State.{parent_of}
use Rattle.model.specs.Sound.{Sound, OutsideSound, TrackersSound, QueueSound, OnceEach, slot_uses, record_uses, names}
use Rattle.laws.specs.Stack.{one}
use Rattle.laws.specs.Tree.Slots.{live-is}
use Rattle.tables.specs.Tables.{Tables, Arena, no_domain, no_slot, no_region, no_update}
use Rattle.tables.specs.declared.Handle.{Handle}
use Rattle.decoded.specs.Shape.{Shaped}
use Rattle.decoded.specs.Decode.Read.{free_from, pool_from, taken, table_from, capa_from, list_from, kind_from, children_from, domain_read, region_read, domains_from, regions_from, update_from, places_from, queue_from, state_of}
use Rattle.decoded.specs.Decode.Places.{places-outside}
use Rattle.decoded.specs.Decode.Regions.{children-few}
use Rattle.decoded.specs.Canonical.Ends.{chain_end, chain-full}
use Rattle.decoded.specs.Canonical.WellFormed.{WellFormed, TrackersWellFormed, Marked, OutsideWalked, QueueWalked, Walked}
use Rattle.decoded.specs.Canonical.Pools.{not_on, on, table-used, table-free, table-in}
use Rattle.decoded.specs.Canonical.Domains.{held-at}
use Rattle.decoded.specs.Canonical.Law.{each_at}

-- ---- slots in use and free slots

marks : {A : Type 0} (n : ℕ) (a : Arena) (f : ℕ → A) → OnceEach n (slot_uses (table_from n a f)) (free_from n a) → Marked n a
marks n a f h i b = elim (test (taken a i)) [
  | holds t ↦ t ∙ sym (not_on (free_from n a) i (omega (arith, h i, ap one_if (lt-ltb i n b), ap (λ o. one_if (is_some o)) (table-used n a f i b t))))
  | fails t ↦ t ∙ sym (on (free_from n a) i (omega (arith, h i, ap one_if (lt-ltb i n b), ap (λ o. one_if (is_some o)) (table-free n a f i b t))))
]

-- a slot of kind 1 is free
free-kind : (k : ℕ) (h : Handle) → k ≡ 1 → one_if (is_some (capa_from k h)) ≡ 0
free-kind zero h e = absurd (omega arith)
free-kind (suc zero) h e = refl
free-kind (suc (suc k)) h e = absurd (omega arith)

-- a region that is no root has the parent that its link names
pub parent_is : (k p : ℕ) → 2 ≤ k → parent_of (kind_from k (suc p)) ≡ some p
parent_is zero p h = absurd (omega arith)
parent_is (suc zero) p h = absurd (omega arith)
parent_is (suc (suc zero)) p h = refl
parent_is (suc (suc (suc k))) p h = refl

module _ (v : Tables) (s : Shaped v) (h : OutsideSound (state_of v)) where
  domain-marks : Marked v.sizes.domains v.domain_pool
  unfolding state_of pool_from domains_from
  domain-marks = marks v.sizes.domains v.domain_pool (domain_read v) h.domain_pool.once

  region-marks : Marked v.sizes.regions v.region_pool
  unfolding state_of pool_from regions_from
  region-marks = marks v.sizes.regions v.region_pool (region_read v) h.region_pool.once

  slot-marks : (i : ℕ) → i < v.sizes.domains → taken v.domain_pool i ≡ true → (j : ℕ) → j < v.sizes.slots → (get_or (get_or v.domains i no_domain).slots j no_slot).kind ≡ 1 → 0 < count_if (eqb j) (list_from v.sizes.slots (get_or v.domains i no_domain)).free
  unfolding state_of domains_from
  slot-marks i b e j c k =
      let x = get_or v.domains i no_domain in
      let l = h.lists i (domain_read v i) (table-used v.sizes.domains v.domain_pool (domain_read v) i b e) in
      let long : length x.slots ≡ v.sizes.slots = each_at _ v.domains s.slots i no_domain (omega (arith, s.domains)) in
      let y = get_or x.slots j no_slot in
      omega (arith, l.once j, ap one_if (lt-ltb j v.sizes.slots c), ap (λ o. one_if (is_some o)) (held-at x.slots j (omega arith)), free-kind y.kind y.handle k)

  module _ (i : ℕ) (b : i < v.sizes.regions) (e : taken v.region_pool i ≡ true) where
    in_use_lem : In (regions_from v) i (region_read v i)
    unfolding regions_from
    in_use_lem = table-used v.sizes.regions v.region_pool (region_read v) i b e

    children-end : chain_end (λ k. (get_or v.regions k no_region).next) v.sizes.regions (get_or v.regions i no_region).child ≡ 0
    unfolding state_of
    children-end = elim (cmp 0 (chain_end (λ k. (get_or v.regions k no_region).next) v.sizes.regions (get_or v.regions i no_region).child)) [
      | lt u ↦ absurd (omega (arith, chain-full (λ k. (get_or v.regions k no_region).next) v.sizes.regions (get_or v.regions i no_region).child u, children-few (regions_from v) h.regions i (region_read v i) in_use_lem, h.regions_length))
      | ge u ↦ omega arith
    ]

    module _ (p : ℕ) (k : 2 ≤ (get_or v.regions i no_region).kind) (q : (get_or v.regions i no_region).parent ≡ suc p) where
      parent : parent_of (region_read v i).kind ≡ some p
      parent = ap (λ l. parent_of (kind_from (get_or v.regions i no_region).kind l)) q ∙ parent_is (get_or v.regions i no_region).kind p k

      -- the parent, with what it is
      parent_in : (x : state.Region) × In (regions_from v) p x
      unfolding state_of
      parent_in = live-is (at_slot (regions_from v) p) ((h.regions i (region_read v i) in_use_lem).parent_live p parent)

      parent-read : (p < v.sizes.regions) × (taken v.region_pool p ≡ true) × (region_read v p ≡ parent_in.0)
      unfolding regions_from
      parent-read = table-in v.sizes.regions v.region_pool (region_read v) p parent_in.0 parent_in.1

      in_list : 0 < count_if (eqb i) (children_from v.sizes.regions v.regions (get_or v.regions p no_region).child)
      unfolding state_of
      in_list = omega (
        arith,
        (h.regions i (region_read v i) in_use_lem).listed p parent_in.0 parent_in.1,
        ap (λ o. one_if (names o p)) parent,
        one p p refl,
        ap (λ (x : state.Region). count_if (eqb i) x.children) parent-read.2,
      )

  pub outside-walked : OutsideWalked v
  outside-walked = record {
    domain_marks = domain-marks;
    region_marks = region-marks;
    slot_marks = slot-marks;
    children_end = children-end;
    parent_taken = λ i p b e k q. let r = parent-read i b e p k q in (r.0, r.1);
    listed = λ i p b e k q. in_list i b e p k q;
  }

module _ (v : Tables) (t : TrackersWellFormed v) (h : TrackersSound (state_of v)) where
  record-uses : (i : ℕ) → i < v.sizes.records → taken v.record_pool i ≡ true → 0 < record_uses (domains_from v) i
  unfolding state_of pool_from
  record-uses i b e = elim (cmp 0 (count_if (eqb i) (free_from v.sizes.records v.record_pool))) [
    | lt o ↦ absurd (false-is (t.record_marks i b ∙ on (free_from v.sizes.records v.record_pool) i o) (true-is e))
    | ge o ↦ omega (arith, h.record_pool.once i, ap one_if (lt-ltb i v.sizes.records b))
  ]

module _ (v : Tables) (h : QueueSound v.sizes.updates (state_of v).domain_pool (state_of v).domains (state_of v).queue) where
  read-place : v.read < v.sizes.updates + 1
  unfolding state_of queue_from
  read-place = h.read_place

  -- a write place outside gives a queue that is too long
  write-place : v.write < v.sizes.updates + 1
  unfolding state_of queue_from
  write-place =
      let n = v.sizes.updates + 1 in
      let places = places_from n v.write n v.read in
      elim (cmp v.write n) [
        | lt b ↦ b
        | ge b ↦ absurd (omega (arith, h.fits, length-map places (λ k. update_from (get_or v.ring k no_update) (get_or v.marks k 0)), places-outside n v.write b n v.read read-place))
      ]

  pub queue-walked : QueueWalked v
  queue-walked = record { read = read-place; write = write-place }

pub sound-walked : (v : Tables) → Shaped v → WellFormed v → Sound (state_of v) → Walked v
unfolding state_of
sound-walked v s t h = record { outside = outside-walked v s h.outside; queue = queue-walked v h.queue; records_used = record-uses v t.tracked h.tracked }
