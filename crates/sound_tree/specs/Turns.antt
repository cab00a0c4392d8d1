-- One turn of each loop over rows and lists: the rest of the definition from here is the rest from the next slot on.
use Rattle.std.specs.Prelude.{◌≡◌, Bool, true, false, List, ltb, get_or}
use Rattle.std.proofs.Common.{sym, ◌∙◌, add-one, lt-ltb}
use Prim.Native.Nat.{ℕ, zero, suc, ◌+◌, ◌-◌, ◌<◌, ◌≤◌}
use native.Mathlib.Omega.{arith}
use Rattle.base.specs.Cases.{pick, test, holds, fails}
use Rattle.base.specs.Tests.{all_from}
use Rattle.tables.specs.declared.RegionCapa.{RegionCapa}
use Rattle.tables.specs.Kinds.{ROOT}
use Rattle.sound_tree.specs.declared.Run.{Run}
use Rattle.sound_tree.specs.Tree.{one_if, tally_from, region_fits, slot_fits, is_child, count_from, child_fits, after, no_run, walk_from, walked, lists_from}

-- ---- the rows

few : (b : Bool) → one_if b ≤ 1
unfolding one_if
few true = omega arith
few false = omega arith

pub one-few : (m : ℕ) (b : Bool) → m ≡ one_if b → m ≤ 1
one-few m b e = omega (arith, few b)

pub tally-few : (f : ℕ → Bool) (n k : ℕ) → tally_from f n k ≤ n
tally-few f zero k = omega arith
tally-few f (suc n) k = omega (arith, few (f k), tally-few f n (suc k))

module _ (links : List ℕ) (row : ℕ → RegionCapa) where
  -- row g of slot i, which is free or not, is fit or not
  module _ (n i many : ℕ) (free b : Bool) (g : RegionCapa) (h : i < n) (eg : g ≡ row i) (ef : free ≡ ltb 0 (get_or links i 0)) (eb : b ≡ region_fits row free g) where
    fit : b ≡ slot_fits links row i
    unfolding slot_fits
    fit = eb ∙ rw (eg, ef)

    pub count_turn : (m : ℕ) → b ≡ true → m ≡ one_if (ltb ROOT g.kind) → count_from links row (many + m) (n - (i + 1)) (i + 1) ≡ count_from links row many (n - i) i
    count_turn m y e =
        let k : n - i ≡ suc (n - suc i) = omega arith in
        let u : m ≡ one_if (is_child row i) = e ∙ rw eg in
        rw (k, add-one, ← fit, y, u)

    pub count-stop : b ≡ false → 0 ≡ count_from links row many (n - i) i
    count-stop y = let k : n - i ≡ suc (n - suc i) = omega arith in rw (k, ← fit, y)

  -- the rows tested, and the children counted
  pub count-is : (many n k : ℕ) → count_from links row many n k ≡ pick (all_from (slot_fits links row) k n) (many + tally_from (is_child row) n k + 1) 0
  unfolding all_from
  count-is many zero k = omega arith
  count-is many (suc n) k =
      let z : many + one_if (is_child row k) + tally_from (is_child row) n (suc k) ≡ many + (one_if (is_child row k) + tally_from (is_child row) n (suc k)) = omega arith in
      elim (test (slot_fits links row k)) [
        | holds t ↦ rw (t, ← z) (count-is (many + one_if (is_child row k)) n (suc k))
        | fails t ↦ rw t
      ]

-- ---- a child list

module _ (row : ℕ → RegionCapa) (own : ℕ) where
  walk-go : (n l : ℕ) (s : Run) → 0 < l → 0 < n → walk_from row own n l s ≡ pick (child_fits own s (row (l - 1))) (walk_from row own (n - 1) (row (l - 1)).next (after s (row (l - 1)))) 0
  walk-go zero l s h k = absurd (omega arith)
  walk-go (suc n) zero s h k = absurd (omega arith)
  walk-go (suc n) (suc c) s h k = let e : suc n - 1 ≡ n = omega arith in let f : suc c - 1 ≡ c = omega arith in rw (e, f)

  pub walk-stop : (n l : ℕ) (s : Run) (r : RegionCapa) (b : Bool) → 0 < l → 0 < n → r ≡ row (l - 1) → b ≡ child_fits own s r → b ≡ false → 0 ≡ walk_from row own n l s
  walk-stop n l s r b h k e f y = sym (walk-go n l s h k ∙ rw (← e, ← f, y))

  -- no more are left behind a list than before it
  pub walk-few : (n l : ℕ) (s : Run) → walk_from row own n l s ≤ suc n
  walk-few zero zero s = omega arith
  walk-few zero (suc c) s = omega arith
  walk-few (suc n) zero s = omega arith
  walk-few (suc n) (suc c) s = fewer (child_fits own s (row c)) (walk-few n (row c).next (after s (row c)))
    where
      fewer : (b : Bool) → walk_from row own n (row c).next (after s (row c)) ≤ suc n → pick b (walk_from row own n (row c).next (after s (row c))) 0 ≤ suc (suc n)
      fewer true h = omega arith
      fewer false h = omega arith

-- ---- all child lists

module _ (row : ℕ → RegionCapa) (n left i : ℕ) (h : i < n) where
  pub walked-few : (m : ℕ) → m + 1 ≡ walked row left i → m ≤ left
  unfolding walked
  walked-few m e = omega (arith, walk-few row (i + 1) left (row i).child no_run)

  pub lists-turn : (m : ℕ) → m + 1 ≡ walked row left i → lists_from row m (n - (i + 1)) (i + 1) ≡ lists_from row left (n - i) i
  lists-turn m e =
      let k : n - i ≡ suc (n - suc i) = omega arith in
      let z : m + 1 - 1 ≡ m = omega arith in
      let p : 0 < m + 1 = omega arith in
      rw (k, add-one, ← e, lt-ltb 0 (m + 1) p, z)

  pub lists-stop : 0 ≡ walked row left i → false ≡ lists_from row left (n - i) i
  lists-stop e = let k : n - i ≡ suc (n - suc i) = omega arith in rw (k, ← e)
