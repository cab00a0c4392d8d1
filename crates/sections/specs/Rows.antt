-- Rows of a section that is lent as a slice of its own. A row that is not there is read as all zero, as `region_at` and the others do.
use Rattle.std.specs.Prelude.{◌≡◌, List, [], ℕ, ◌+◌, ◌-◌, ◌*◌, ◌^◌, min, ◌≤◌, ◌<◌, length, get_or}
use Rattle.std.proofs.Common.{sym, ◌∙◌, mul-le-mul_right, arith}
use Rattle.std.proofs.Math.Path.{ap}
use Rattle.std.proofs.Math.ListN.{get_or-eq_default}
use Rattle.base.specs.Cases.{cmp, lt, ge}
use Rattle.words.specs.Runs.{part, fetched, fetched-in, fetched-out}
use Rattle.words.specs.Rows.{rows, length-rows, get_d_rows}
use Rattle.sizes.specs.Sizes.{slot_width, region_width, record_width, hash_width, interface_width}
use Rattle.tables.specs.declared.Slot.{Slot}
use Rattle.tables.specs.declared.RegionCapa.{RegionCapa}
use Rattle.tables.specs.declared.Region.{Region}
use Rattle.tables.specs.declared.RegionHash.{RegionHash}
use Rattle.tables.specs.declared.Interface.{Interface}
use Rattle.tables.specs.View.{slot_of, region_of, record_of, hash_of, interface_of}

-- row i of w words, read by f
unfoldable pub row_in : {A : Type 0} → (List ℕ → A) → ℕ → List ℕ → ℕ → A
row_in f w p i = f (fetched p (i * w) w)

abbrev pub slot_in : List ℕ → ℕ → Slot
slot_in p i = row_in slot_of slot_width p i

abbrev pub region_in : List ℕ → ℕ → RegionCapa
region_in p i = row_in region_of region_width p i

abbrev pub record_in : List ℕ → ℕ → Region
record_in p i = row_in record_of record_width p i

abbrev pub hash_in : List ℕ → ℕ → RegionHash
hash_in p i = row_in hash_of hash_width p i

abbrev pub interface_in : List ℕ → ℕ → Interface
interface_in p i = row_in interface_of interface_width p i

module _ {A : Type 0} (f : List ℕ → A) (w : ℕ) (p : List ℕ) (i : ℕ) where
  pub row-there : i * w + w ≤ length p → row_in f w p i ≡ f (part p (i * w) w)
  unfolding row_in
  row-there h = ap f (fetched-in p (i * w) w h)

  pub row-absent : length p < i * w + w → row_in f w p i ≡ f []
  unfolding row_in
  row-absent h = ap f (fetched-out p (i * w) w h)

  -- the section's words as a list of rows
  pub row_listed : (n : ℕ) → length p ≡ n * w → 0 < w → row_in f w p i ≡ get_or (rows w n f p) i (f [])
  row_listed n e hw = elim (cmp i n) [
    | lt h ↦ row-there (omega (arith, mul-le-mul_right w h)) ∙ sym (get_d_rows w n f p i (f []) h)
    | ge h ↦ row-absent (omega (arith, mul-le-mul_right w h)) ∙ sym (get_or-eq_default (rows w n f p) (f []) {n = i} (rw length-rows h))
  ]

  -- the place as a word of the machine holds it: the largest where it is too large, which is past the end
  pub row-read : (a : ℕ) → length p < 2 ^ 64 - 1 → a ≡ min (i * w) (2 ^ 64 - 1) → f (fetched p a w) ≡ row_in f w p i
  unfolding row_in
  row-read a h e = elim (cmp (i * w) (2 ^ 64 - 1)) [
    | lt k ↦ let z : a ≡ i * w = omega arith in rw z
    | ge k ↦ ap f (fetched-out p a w (omega arith) ∙ sym (fetched-out p (i * w) w (omega arith)))
  ]
