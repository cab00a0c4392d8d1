-- "without circles": the ways up that the test follows and marks.
use Rattle.std.specs.Prelude.{◌≡◌, refl, ◌⊎◌, Bool, true, false, List, ℕ, zero, suc, ◌+◌, ◌-◌, ◌≤◌, ◌<◌, ltb, get_or, set}
use Rattle.std.proofs.Common.{sym, ap, subst, ◌∙◌, ⊎_elim, arith, ltb-true, get_or-set_other}
use Rattle.std.proofs.Math.Option.{some}
use Rattle.std.proofs.Math.Decide.{ℕ_discrete}
use Rattle.base.specs.Cases.{lt, ge, cmp, holds, fails, test}
use Rattle.tables.specs.declared.RegionCapa.{RegionCapa}
use Rattle.sound_tree.specs.Ways.{stop-low}
use Rattle.sound_tree.specs.Tree.{stops, climb_from, mark_from, rooted_from}

module _ (row : ℕ → RegionCapa) (w : List ℕ) (j : ℕ) where
  -- a way that stops is at a region that is known, or at one that is no child
  stop-facts : {X : Type 0} → stops row w j ≡ true → (0 < get_or w j 0 → X) → ((row j).kind < 2 → X) → X
  unfolding stops
  stop-facts e f g = elim (test (ltb 0 (get_or w j 0))) [
    | holds t ↦ f (ltb-true _ _ t)
    | fails t ↦ g (ltb-true _ _ (rw t at e))
  ]

  go-facts : stops row w j ≡ false → 2 ≤ (row j).kind
  go-facts e = elim (cmp (row j).kind 2) [
    | ge h ↦ h
    | lt h ↦ let z : ◌≡◌ {A = ℕ} 0 1 = clash (stops row w j) (stop-low row w j h) e in absurd (omega arith)
  ]
    where
      clash : (b : Bool) → b ≡ true → b ≡ false → ◌≡◌ {A = ℕ} 0 1
      clash b e f = cc

-- Rows, of which some are in use (U); R is what holds of those that lead to a root: it holds where no parent is, and goes up and down.
module _ (row : ℕ → RegionCapa) (U R : ℕ → Type 0)
    (top : (j : ℕ) → U j → (row j).kind < 2 → R j)
    (over : (j : ℕ) → U j → 2 ≤ (row j).kind → U ((row j).parent - 1))
    (down : (j : ℕ) → U j → 2 ≤ (row j).kind → R ((row j).parent - 1) → R j)
    (climbs : (j : ℕ) → U j → 2 ≤ (row j).kind → R j → R ((row j).parent - 1)) where
  -- what is marked leads to a root
  abbrev pub Known : List ℕ → Type 0
  Known w = (j : ℕ) → 0 < get_or w j 0 → U j → R j

  climb-leads : (w : List ℕ) → Known w → (n j : ℕ) → U j → climb_from row w n j ≡ true → R j
  climb-leads w k zero j u e = let z : ◌≡◌ {A = ℕ} 0 1 = cc in absurd (omega arith)
  climb-leads w k (suc n) j u e = elim (test (stops row w j)) [
    | holds t ↦ stop-facts row w j t (λ h. k j h u) (λ h. top j u h)
    | fails t ↦ let c = go-facts row w j t in down j u c (climb-leads w k n ((row j).parent - 1) (over j u c) (rw t at e))
  ]

  known_more : (w : List ℕ) (j : ℕ) → Known w → R j → Known (set w j 1)
  known_more w j k r i h u = elim (ℕ_discrete i j) [
    | yes e ↦ subst R (sym e) r
    | no ne ↦ k i (rw (get_or-set_other w j i 1 0 ne) at h) u
  ]

  mark-known : (n : ℕ) (w : List ℕ) (j : ℕ) → Known w → U j → R j → Known (mark_from row w n j)
  mark-known zero w j k u r = k
  mark-known (suc n) w j k u r = elim (test (stops row w j)) [
    | holds t ↦ rw t k
    | fails t ↦ let c = go-facts row w j t in rw t (mark-known n (set w j 1) ((row j).parent - 1) (known_more w j k r) (over j u c) (climbs j u c r))
  ]

  -- a row that is in use, or zero
  module _ (m : ℕ) (told : (j : ℕ) → U j ⊎ ((row j).kind < 2)) where
    mark-any : (w : List ℕ) (j : ℕ) → Known w → climb_from row w m j ≡ true → Known (mark_from row w m j)
    mark-any w j k e = ⊎_elim (λ u. mark-known m w j k u (climb-leads w k m j u e)) (λ h. still m h) (told j)
      where
        still : (n : ℕ) → (row j).kind < 2 → Known (mark_from row w n j)
        still zero h = k
        still (suc n) h = rw (stop-low row w j h) k

    pub roots-lead : (n k : ℕ) (w : List ℕ) → Known w → rooted_from row m w n k ≡ true → (j : ℕ) → k ≤ j → j < k + n → U j → R j
    roots-lead zero k w known e j a b u = absurd (omega arith)
    roots-lead (suc n) k w known e j a b u = elim (test (climb_from row w m k)) [
      | fails t ↦ let z : ◌≡◌ {A = Bool} false true = rw t at e in let o : ◌≡◌ {A = ℕ} 0 1 = cc in absurd (omega arith)
      | holds t ↦ elim (cmp k j) [
        | lt c ↦ roots-lead n (suc k) (mark_from row w m k) (mark-any w k known t) (rw t at e) j c (omega arith) u
        | ge c ↦ let z : j ≡ k = omega arith in climb-leads w known m j u (ap (climb_from row w m) z ∙ t)
      ]
    ]

-- ---- and back: a way that ends is found, whatever is marked

pub climbs-all : (row : ℕ → RegionCapa) (m : ℕ) → ((w : List ℕ) (j : ℕ) → j < m → climb_from row w m j ≡ true) → (n k : ℕ) (w : List ℕ) → k + n ≤ m → rooted_from row m w n k ≡ true
climbs-all row m h zero k w b = refl
climbs-all row m h (suc n) k w b = rw (h w k (omega arith)) (climbs-all row m h n (suc k) (mark_from row w m k) (omega arith))

pub climb-low : (row : ℕ → RegionCapa) (w : List ℕ) (n j : ℕ) → (row j).kind < 2 → 0 < n → climb_from row w n j ≡ true
climb-low row w zero j h b = absurd (omega arith)
climb-low row w (suc n) j h b = rw (stop-low row w j h)

pub climb-up : (row : ℕ → RegionCapa) (w : List ℕ) (n j : ℕ) → climb_from row w n ((row j).parent - 1) ≡ true → climb_from row w (suc n) j ≡ true
climb-up row w n j e = elim (test (stops row w j)) [ holds t ↦ rw t | fails t ↦ rw t e ]
