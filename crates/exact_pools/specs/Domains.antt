-- The test of a domain's row, and the stacks of the tables as stacks.
use Rattle.std.specs.Prelude.{◌≡◌, ℕ, ◌≤◌, ◌<◌, Bool, length, get_or}
use Rattle.std.proofs.Math.Path.{refl, sym, ap}
use Rattle.std.proofs.Common.{◌∙◌, arith}
use Rattle.std.proofs.Math.Bool.{true, false, not}
use Rattle.std.proofs.Math.Option.{none}
use Rattle.base.specs.Cases.{pick, pick-t, pick-f}
use Rattle.base.specs.Tests.{both, both_true, all-at, at_all, both-i}
use Rattle.tables.specs.Tables.{Tables, no_domain, no_slot, head_at, slot_at, region_at, record_at}
use Rattle.decoded.specs.Shape.{Shaped}
use Rattle.decoded.specs.Tables.{domain_for}
use Rattle.decoded.specs.Decode.Read.{taken}
use Rattle.decoded.specs.Canonical.Law.{each_at}
use Rattle.decoded.specs.Canonical.WellFormed.{SlotWellFormed, domain_row, region_row, record_row}
use Rattle.list_links.specs.declared.Stack.TheVariants.{Domains, Regions, Records, Slots, Trackers}
use Rattle.list_links.specs.Stacks.{may_meet, eligible, next_of, top_of, stack_holds}
use Rattle.clear_rows.specs.Clear.{head_clear, slot_clear, slot_well_formed, region_clear, record_clear}
use Rattle.sound_rows.specs.Hold.{slots_hold, domain_holds, row_holds, rows_hold}
use Rattle.exact_pools.specs.Stacks.{test_of}
use Rattle.exact_pools.specs.Pools.{both-in, both_out, free-taken, free_b, link_of, slot_free, slot_link, ListGood, list-good, good-list}
use Rattle.exact_pools.specs.Rows.{domain-zero, zero-domain-head, zero-domain-slot, slot-well-formed, well-formed-slot}

module _ (v : Tables) where
  -- ---- a slot that may be met is free

  pub domain-free : (i : ℕ) → i < v.sizes.domains → may_meet v Domains i ≡ not (taken v.domain_pool i)
  unfolding may_meet eligible
  domain-free i b = free-taken v.sizes.domains v.domain_pool i b

  pub region-free : (i : ℕ) → i < v.sizes.regions → may_meet v Regions i ≡ not (taken v.region_pool i)
  unfolding may_meet eligible
  region-free i b = free-taken v.sizes.regions v.region_pool i b

  pub record-free : (i : ℕ) → i < v.sizes.records → may_meet v Records i ≡ not (taken v.record_pool i)
  unfolding may_meet eligible
  record-free i b = free-taken v.sizes.records v.record_pool i b

  -- a record that may be met on a tracker is in use
  pub record-used : (i : ℕ) → i < v.sizes.records → may_meet v Trackers i ≡ taken v.record_pool i
  unfolding may_meet eligible
  record-used i b = both-in i v.sizes.records _ b

  pub no_record_lem : (i : ℕ) → v.sizes.records ≤ i → may_meet v Trackers i ≡ false
  unfolding may_meet eligible
  no_record_lem i b = both_out i v.sizes.records _ b

  -- ---- the stacks

  pub domain-stack : stack_holds v Domains ≡ test_of (link_of v.sizes.domains v.domain_pool) (free_b v.sizes.domains v.domain_pool) v.sizes.domains v.domain_pool.count v.domain_pool.head
  unfolding stack_holds may_meet eligible next_of top_of
  domain-stack = refl

  pub region-stack : stack_holds v Regions ≡ test_of (link_of v.sizes.regions v.region_pool) (free_b v.sizes.regions v.region_pool) v.sizes.regions v.region_pool.count v.region_pool.head
  unfolding stack_holds may_meet eligible next_of top_of
  region-stack = refl

  pub record-stack : stack_holds v Records ≡ test_of (link_of v.sizes.records v.record_pool) (free_b v.sizes.records v.record_pool) v.sizes.records v.record_pool.count v.record_pool.head
  unfolding stack_holds may_meet eligible next_of top_of
  record-stack = refl

  module _ (s : Shaped v) (d : ℕ) (b : d < v.sizes.domains) where
    pub slots-many : length (domain_row v d).slots ≡ v.sizes.slots
    slots-many = each_at _ v.domains s.slots d no_domain (omega (arith, s.domains))

    list-stack : stack_holds v (Slots d) ≡ test_of (slot_link v.sizes.slots (domain_row v d) slots-many) (slot_free v.sizes.slots (domain_row v d) slots-many) v.sizes.slots (domain_row v d).head.count (domain_row v d).head.head
    unfolding stack_holds may_meet eligible next_of top_of slot_at head_at
    list-stack = refl

    abbrev pub RowGood : Type 0
    RowGood = ListGood v.sizes.slots (domain_row v d) slots-many

    -- ---- a domain in use

    slots-well-formed : slots_hold v d false ≡ true → (j : ℕ) → j < v.sizes.slots → SlotWellFormed (get_or (domain_row v d).slots j no_slot)
    unfolding slots_hold slot_at
    slots-well-formed h j l = slot-well-formed (get_or (domain_row v d).slots j no_slot) (all-at (λ k. slot_well_formed (get_or (domain_row v d).slots k no_slot)) 0 v.sizes.slots h j (omega arith) (omega arith))

    well-formed-slots : ((j : ℕ) → j < v.sizes.slots → SlotWellFormed (get_or (domain_row v d).slots j no_slot)) → slots_hold v d false ≡ true
    unfolding slots_hold slot_at
    well-formed-slots h = at_all (λ k. slot_well_formed (get_or (domain_row v d).slots k no_slot)) 0 v.sizes.slots (λ j a l. well-formed-slot (get_or (domain_row v d).slots j no_slot) (h j (omega arith)))

    used-is : taken v.domain_pool d ≡ true → domain_holds v d ≡ both (slots_hold v d false) (stack_holds v (Slots d))
    unfolding domain_holds
    used-is t = pick-f (may_meet v Domains d) _ _ (domain-free d b ∙ ap not t)

    pub used-holds : taken v.domain_pool d ≡ true → domain_holds v d ≡ true → ((j : ℕ) → j < v.sizes.slots → SlotWellFormed (get_or (domain_row v d).slots j no_slot)) × RowGood
    used-holds t h =
        let p = both_true (slots_hold v d false) (stack_holds v (Slots d)) (sym (used-is t) ∙ h) in
        (slots-well-formed p.0, list-good v.sizes.slots (domain_row v d) slots-many (sym list-stack ∙ p.1))

    pub holds-used : taken v.domain_pool d ≡ true → ((j : ℕ) → j < v.sizes.slots → SlotWellFormed (get_or (domain_row v d).slots j no_slot)) → RowGood → domain_holds v d ≡ true
    holds-used t h g = used-is t ∙ both-i (slots_hold v d false) (stack_holds v (Slots d)) (well-formed-slots h) (list-stack ∙ good-list v.sizes.slots (domain_row v d) slots-many (omega (arith, s.limits.slots-low)) g)

    -- ---- a free one

    slots-clear : slots_hold v d true ≡ true → (j : ℕ) → j < v.sizes.slots → slot_clear (get_or (domain_row v d).slots j no_slot) ≡ true
    unfolding slots_hold slot_at
    slots-clear h j l = all-at (λ k. slot_clear (get_or (domain_row v d).slots k no_slot)) 0 v.sizes.slots h j (omega arith) (omega arith)

    clear-slots : ((j : ℕ) → j < v.sizes.slots → slot_clear (get_or (domain_row v d).slots j no_slot) ≡ true) → slots_hold v d true ≡ true
    unfolding slots_hold slot_at
    clear-slots h = at_all (λ k. slot_clear (get_or (domain_row v d).slots k no_slot)) 0 v.sizes.slots (λ j a l. h j (omega arith))

    free-is : taken v.domain_pool d ≡ false → domain_holds v d ≡ both (head_clear (domain_row v d).head) (slots_hold v d true)
    unfolding domain_holds head_at
    free-is t = pick-t (may_meet v Domains d) _ _ (domain-free d b ∙ ap not t)

    pub free-holds : taken v.domain_pool d ≡ false → domain_holds v d ≡ true → domain_row v d ≡ domain_for v.sizes.slots none
    free-holds t h =
        let p = both_true (head_clear (domain_row v d).head) (slots_hold v d true) (sym (free-is t) ∙ h) in
        domain-zero v.sizes.slots (domain_row v d) slots-many p.0 (slots-clear p.1)

    pub holds-free : taken v.domain_pool d ≡ false → domain_row v d ≡ domain_for v.sizes.slots none → domain_holds v d ≡ true
    holds-free t e =
        free-is t
        ∙ both-i (head_clear (domain_row v d).head) (slots_hold v d true) (zero-domain-head v.sizes.slots (domain_row v d) e) (clear-slots (zero-domain-slot v.sizes.slots (domain_row v d) e))

  -- ---- the other rows

  pub domains-hold : rows_hold v Domains ≡ true → (i : ℕ) → i < v.sizes.domains → domain_holds v i ≡ true
  unfolding rows_hold row_holds
  domains-hold h i b = all-at (domain_holds v) 0 v.sizes.domains h i (omega arith) (omega arith)

  pub hold-domains : ((i : ℕ) → i < v.sizes.domains → domain_holds v i ≡ true) → rows_hold v Domains ≡ true
  unfolding rows_hold row_holds
  hold-domains h = at_all (domain_holds v) 0 v.sizes.domains (λ i a b. h i (omega arith))

  pub regions-hold : rows_hold v Regions ≡ true → (i : ℕ) → i < v.sizes.regions → taken v.region_pool i ≡ false → region_clear (region_row v i) ≡ true
  unfolding rows_hold row_holds region_at
  regions-hold h i b t = sym (pick-t (may_meet v Regions i) (region_clear (region_row v i)) true (region-free i b ∙ ap not t)) ∙ all-at (row_holds v Regions) 0 v.sizes.regions h i (omega arith) (omega arith)

  pub hold-regions : ((i : ℕ) → i < v.sizes.regions → taken v.region_pool i ≡ false → region_clear (region_row v i) ≡ true) → rows_hold v Regions ≡ true
  unfolding rows_hold row_holds region_at
  hold-regions h = at_all (row_holds v Regions) 0 v.sizes.regions (λ i a b. at i (omega arith) (taken v.region_pool i) refl)
    where
      at : (i : ℕ) → i < v.sizes.regions → (q : Bool) → taken v.region_pool i ≡ q → pick (may_meet v Regions i) (region_clear (region_row v i)) true ≡ true
      at i b true t = pick-f (may_meet v Regions i) _ true (region-free i b ∙ ap not t)
      at i b false t = pick-t (may_meet v Regions i) _ true (region-free i b ∙ ap not t) ∙ h i b t

  pub records-hold : rows_hold v Records ≡ true → (i : ℕ) → i < v.sizes.records → taken v.record_pool i ≡ false → record_clear (record_row v i) ≡ true
  unfolding rows_hold row_holds record_at
  records-hold h i b t = sym (pick-t (may_meet v Records i) (record_clear (record_row v i)) true (record-free i b ∙ ap not t)) ∙ all-at (row_holds v Records) 0 v.sizes.records h i (omega arith) (omega arith)

  pub hold-records : ((i : ℕ) → i < v.sizes.records → taken v.record_pool i ≡ false → record_clear (record_row v i) ≡ true) → rows_hold v Records ≡ true
  unfolding rows_hold row_holds record_at
  hold-records h = at_all (row_holds v Records) 0 v.sizes.records (λ i a b. at i (omega arith) (taken v.record_pool i) refl)
    where
      at : (i : ℕ) → i < v.sizes.records → (q : Bool) → taken v.record_pool i ≡ q → pick (may_meet v Records i) (record_clear (record_row v i)) true ≡ true
      at i b true t = pick-f (may_meet v Records i) _ true (record-free i b ∙ ap not t)
      at i b false t = pick-t (may_meet v Records i) _ true (record-free i b ∙ ap not t) ∙ h i b t
