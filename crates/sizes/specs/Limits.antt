-- The limits of the sizes (document 01, "Memory and who can be refused"), and the test of them.
use Rattle.std.specs.Prelude.{◌≡◌, Bool, true, ℕ, ◌+◌, ◌*◌, ◌≤◌, leb}
use Rattle.std.proofs.Common.{leb-true, le-leb}
use Rattle.base.specs.Tests.{both, both_true}
use Rattle.sizes.specs.declared.Sizes.{Sizes}
use Rattle.sizes.specs.Sizes.{header_width, head_width, slot_width, region_width, record_width, update_width, hash_width, interface_width, mark_width, pool_width}

abbrev pub most_domains : ℕ
most_domains = 32

abbrev pub most_slots : ℕ
most_slots = 128

abbrev pub most_regions : ℕ
most_regions = 1024

abbrev pub most_records : ℕ
most_records = 1024

abbrev pub most_updates : ℕ
most_updates = 128

-- the words of the largest tables
abbrev pub most_words : ℕ
most_words =
    header_width + (pool_width most_domains + pool_width most_regions + pool_width most_records) + most_domains * (head_width + most_slots * slot_width) + most_regions * region_width + most_records * record_width + (most_updates + 1) * update_width + most_regions * hash_width + most_domains * interface_width + (most_updates + 1) * mark_width

pub record Limits (z : Sizes) : Type 0 where
  pub domains-low : 1 ≤ z.domains
  pub domains-high : z.domains ≤ most_domains
  pub slots-low : 1 ≤ z.slots
  pub slots-high : z.slots ≤ most_slots
  pub regions-low : 1 ≤ z.regions
  pub regions-high : z.regions ≤ most_regions
  pub records-low : 1 ≤ z.records
  pub records-high : z.records ≤ most_records
  pub updates-low : 1 ≤ z.updates
  pub updates-high : z.updates ≤ most_updates

abbrev pub within_b : ℕ → ℕ → Bool
within_b n high = both (leb 1 n) (leb n high)

unfoldable pub limits_b : Sizes → Bool
limits_b z =
    both (both (within_b z.domains most_domains) (within_b z.slots most_slots)) (both (both (within_b z.regions most_regions) (within_b z.records most_records)) (within_b z.updates most_updates))

within-true : (n high : ℕ) → within_b n high ≡ true → (1 ≤ n) × (n ≤ high)
within-true n high h = let (a, b) = both_true (leb 1 n) (leb n high) h in (leb-true 1 n a, leb-true n high b)

pub limits-true : (z : Sizes) → limits_b z ≡ true → Limits z
unfolding limits_b
limits-true z h =
    let h₁ = both_true (both (within_b z.domains most_domains) (within_b z.slots most_slots)) _ h in
    let h₂ = both_true (within_b z.domains most_domains) _ h₁.0 in
    let h₃ = both_true (both (within_b z.regions most_regions) (within_b z.records most_records)) _ h₁.1 in
    let h₄ = both_true (within_b z.regions most_regions) _ h₃.0 in
    let d = within-true z.domains most_domains h₂.0 in
    let s = within-true z.slots most_slots h₂.1 in
    let r = within-true z.regions most_regions h₄.0 in
    let t = within-true z.records most_records h₄.1 in
    let u = within-true z.updates most_updates h₃.1 in
    record {
      domains-low = d.0;
      domains-high = d.1;
      slots-low = s.0;
      slots-high = s.1;
      regions-low = r.0;
      regions-high = r.1;
      records-low = t.0;
      records-high = t.1;
      updates-low = u.0;
      updates-high = u.1;
    }

pub true-limits : (z : Sizes) → Limits z → limits_b z ≡ true
unfolding limits_b
true-limits z h =
    simp (le-leb _ _ h.domains-low, le-leb _ _ h.domains-high, le-leb _ _ h.slots-low, le-leb _ _ h.slots-high, le-leb _ _ h.regions-low, le-leb _ _ h.regions-high, le-leb _ _ h.records-low, le-leb _ _ h.records-high, le-leb _ _ h.updates-low, le-leb _ _ h.updates-high)
