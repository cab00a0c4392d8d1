-- What is left to read from a link on.
use mathlib.Core.Path.{◌≡◌, refl}
use mathlib.Core.Bool.{Bool, true, false}
use mathlib.Core.List.{List, [], ◌∷◌}
use Prim.Native.Nat.{ℕ, zero, suc, ◌+◌, ◌-◌, ◌≤◌, ◌<◌, max}
use native.Mathlib.Numerals.{add-one}
use native.Mathlib.Omega.{arith}
use borrow.Author.Tests.{eq-eqb, ne_eqb, le-ltb, ltb-true, ltb-false}
use lib.Dec.{eqb, leb, ltb, leb-suc-suc}
use lib.ListN.{length, get_or, length-map}
use Rattle.std.proofs.Common.{◌∙◌, fold, min}
use Rattle.base.specs.Cases.{pick, test, holds, fails}
use Rattle.base.specs.Tests.{both}
use Rattle.tables.specs.declared.Region.{Region}
use Rattle.tables.specs.Tables.{Tables, record_at}
use Rattle.sizes.specs.Sizes.{sizes_of}
use Rattle.tables.specs.View.{view, of_parts}
use Rattle.tables.specs.Links.{slot_to}
use Rattle.tracker_records.specs.Links.{first_link}
use Rattle.readings.specs.Readings.{records_from, records_of, meets, largest_reach, permission_of, permission_list}

pub records-end : (n : ℕ) (s : Tables) (k : ℕ) → n ≤ 0 → records_from n s k ≡ []
unfolding records_from
records-end n s k h = let e : n ≡ 0 = omega arith in rw e

pub records-none : (n : ℕ) (s : Tables) (k : ℕ) → k ≡ 0 → records_from n s k ≡ []
unfolding records_from
records-none zero s k e = refl
records-none (suc n) s k e = rw (eq-eqb k 0 e)

pub records-more : (n : ℕ) (s : Tables) (k : ℕ) → 0 < n → (k ≡ 0 → ⊥) → records_from n s k ≡ record_at s (slot_to k) ∷ records_from (n - 1) s (record_at s (slot_to k)).next
unfolding records_from
records-more zero s k h f = absurd (omega arith)
records-more (suc n) s k h f = let m : suc n - 1 ≡ n = omega arith in rw (ne_eqb k 0 f, m)

-- the number of records and the first link as they are read from the words
pub records-start : (t : List ℕ) (d n k : ℕ) → n ≡ get_or t 3 0 → k ≡ first_link (view t) d → records_from n (view t) k ≡ records_of (view t) d
unfolding records_of view of_parts sizes_of
records-start t d n k en ek = rw (en, ek)

-- ---- counting

-- no more than the links that may be followed
pub records_short : (n : ℕ) (s : Tables) (k : ℕ) → length (records_from n s k) ≤ n
unfolding records_from
records_short zero s k = omega arith
records_short (suc n) s k = elim (test (eqb k 0)) [
  | holds e ↦ rw e (omega arith)
  | fails e ↦ rw e (omega (arith, records_short n s (record_at s (slot_to k)).next))
]

pub list_length : (s : Tables) (d : ℕ) → length (permission_list s d) ≡ length (records_of s d)
unfolding permission_list
list_length s d = length-map (records_of s d) permission_of

pub min-pick : (a b : ℕ) → min a b ≡ pick (ltb a b) a b
min-pick a b = elim (test (ltb a b)) [
  | holds e ↦ rw e (omega (arith, ltb-true a b e))
  | fails e ↦ rw e (omega (arith, ltb-false a b e))
]

-- ---- the largest reach

-- at the last address or before is before the next one
pub leb-next : (a b : ℕ) → ltb a (b + 1) ≡ leb a b
leb-next a b = rw (add-one, leb-suc-suc)

module _ (s e : ℕ) where
  reach_most : (most : ℕ) (l : List Region) → fold (λ m q. max m (pick (meets s e q) q.ref_count 0)) most l ≡ max most (largest_reach s e l)
  unfolding largest_reach
  reach_most most [] = omega arith
  reach_most most (q ∷ l) = reach_most (max most (pick (meets s e q) q.ref_count 0)) l ∙ omega arith

  pub reach_folded : (l : List Region) → fold (λ m q. max m (pick (meets s e q) q.ref_count 0)) 0 l ≡ largest_reach s e l
  reach_folded l = reach_most 0 l ∙ omega arith

both-not : (a : Bool) → both a false ≡ false
both-not true = refl
both-not false = refl

-- no record begins before address 0
pub reach-none : (s : ℕ) (l : List Region) → 0 ≡ largest_reach s 0 l
unfolding largest_reach
reach-none s [] = refl
reach-none s (q ∷ l) = rw (le-ltb q.start 0 (omega arith), both-not (ltb s q.end), ← (reach-none s l))
