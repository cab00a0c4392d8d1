-- Rows of regions and records, read from their section, beside the link of the pool.
use Rattle.std.specs.Prelude.{◌≡◌, ℕ, ◌<◌, Bool, true, List, ltb}
use Rattle.std.proofs.Common.{◌∙◌, lt-ltb}
use Rattle.std.proofs.Math.ListN.{get_or}
use Rattle.base.specs.Cases.{pick}
use Rattle.tables.specs.Tables.{Tables, region_at, record_at}
use Rattle.sections.specs.Rows.{region_in, record_in}
use Rattle.list_links.specs.declared.Stack.TheVariants.{Regions, Records}
use Rattle.list_links.specs.Stacks.{eligible, may_meet}
use Rattle.clear_rows.specs.Clear.{region_clear, record_clear}
use Rattle.sound_rows.specs.Hold.{row_holds}

-- a row whose link is not 0 is free, and clear
unfoldable pub region_fits : ℕ → List ℕ → ℕ → Bool
region_fits link p i = pick (ltb 0 link) (region_clear (region_in p i)) true

unfoldable pub record_fits : ℕ → List ℕ → ℕ → Bool
record_fits link p i = pick (ltb 0 link) (record_clear (record_in p i)) true

module _ (v : Tables) (l p : List ℕ) (i link : ℕ) where
  pub region-row : l ≡ v.region_pool.links → region_in p ≡ region_at v → i < v.sizes.regions → link ≡ get_or l i 0 → region_fits link p i ≡ row_holds v Regions i
  unfolding region_fits row_holds may_meet eligible
  region-row el ep h e = rw (lt-ltb i v.sizes.regions h) (λ k. pick (ltb 0 ((e ∙ (λ j. get_or (el j) i 0)) k)) (region_clear (ep k i)) true)

  pub record-row : l ≡ v.record_pool.links → record_in p ≡ record_at v → i < v.sizes.records → link ≡ get_or l i 0 → record_fits link p i ≡ row_holds v Records i
  unfolding record_fits row_holds may_meet eligible
  record-row el ep h e = rw (lt-ltb i v.sizes.records h) (λ k. pick (ltb 0 ((e ∙ (λ j. get_or (el j) i 0)) k)) (record_clear (ep k i)) true)
