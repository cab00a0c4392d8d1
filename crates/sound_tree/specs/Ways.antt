-- The ways up that the test follows: one turn of each loop, and where the marks stand.
use Rattle.std.specs.Prelude.{◌≡◌, refl, Bool, true, false, List, ◌++◌, ℕ, zero, suc, ◌+◌, ◌-◌, ◌<◌, ◌≤◌, ltb, length, get_or, set, replicate, drop}
use Rattle.std.proofs.Common.{sym, ap, ◌∙◌, add-one, arith, lt-ltb, drop-set-lt}
use Rattle.std.proofs.lemmas.List.{replicate-append-replicate}
use Rattle.base.specs.Cases.{pick, cmp, lt, ge, test, holds, fails}
use Rattle.words.specs.Zeros.{zeros, drop-zeros}
use Rattle.tables.specs.declared.RegionCapa.{RegionCapa}
use Rattle.sound_tree.specs.Tree.{stops, climb_from, mark_from, rooted_from, marks_from}

-- a row that is no child's stops the way
pub stop-low : (row : ℕ → RegionCapa) (w : List ℕ) (j : ℕ) → (row j).kind < 2 → stops row w j ≡ true
unfolding stops
stop-low row w j h = low (ltb 0 (get_or w j 0))
  where
    low : (b : Bool) → pick b true (ltb (row j).kind 2) ≡ true
    low true = refl
    low false = lt-ltb _ _ h

module _ (row : ℕ → RegionCapa) (w : List ℕ) (j : ℕ) (b : Bool) (e : b ≡ stops row w j) where
  module _ (n k : ℕ) (h : k < n) where
    pub climb-turn : (m : ℕ) → b ≡ false → m ≡ (row j).parent - 1 → climb_from row w (n - (k + 1)) m ≡ climb_from row w (n - k) j
    climb-turn m y f = let z : n - k ≡ suc (n - suc k) = omega arith in rw (z, add-one, ← e, y, f)

    pub climb-stop : b ≡ true → true ≡ climb_from row w (n - k) j
    climb-stop y = let z : n - k ≡ suc (n - suc k) = omega arith in rw (z, ← e, y)

    pub mark-turn : (m : ℕ) (u : List ℕ) → b ≡ false → u ≡ set w j 1 → m ≡ (row j).parent - 1 → mark_from row u (n - (k + 1)) m ≡ mark_from row w (n - k) j
    mark-turn m u y g f = let z : n - k ≡ suc (n - suc k) = omega arith in rw (z, add-one, ← e, y, g, f)

    pub mark-stop : b ≡ true → w ≡ mark_from row w (n - k) j
    mark-stop y = let z : n - k ≡ suc (n - suc k) = omega arith in rw (z, ← e, y)

module _ (row : ℕ → RegionCapa) (n i : ℕ) (w : List ℕ) (b : Bool) (h : i < n) (e : b ≡ climb_from row w n i) where
  pub roots-turn : (u : List ℕ) → b ≡ true → u ≡ mark_from row w n i → rooted_from row n u (n - (i + 1)) (i + 1) ≡ rooted_from row n w (n - i) i
  roots-turn u y f = let k : n - i ≡ suc (n - suc i) = omega arith in rw (k, add-one, ← e, y, f)

  pub marks-turn : (u : List ℕ) → b ≡ true → u ≡ mark_from row w n i → marks_from row n u (n - (i + 1)) (i + 1) ≡ marks_from row n w (n - i) i
  marks-turn u y f = let k : n - i ≡ suc (n - suc i) = omega arith in rw (k, add-one, ← e, y, f)

-- ---- where no row from n on is a child's, marks stand in the first n words, and are cleared there

module _ (row : ℕ → RegionCapa) (n : ℕ) (none : (j : ℕ) → n ≤ j → (row j).kind < 2) where
  mark-beyond : (w : List ℕ) (m j : ℕ) → drop n (mark_from row w m j) ≡ drop n w
  mark-beyond w zero j = refl
  mark-beyond w (suc m) j = elim (cmp j n) [
    | ge h ↦ rw (stop-low row w j (none j h))
    | lt h ↦ kept (stops row w j) (mark-beyond (set w j 1) m ((row j).parent - 1) ∙ drop-set-lt n w j 1 h)
  ]
    where
      kept : (b : Bool) → drop n (mark_from row (set w j 1) m ((row j).parent - 1)) ≡ drop n w → drop n (pick b w (mark_from row (set w j 1) m ((row j).parent - 1))) ≡ drop n w
      kept true e = refl
      kept false e = e

  pub marks-beyond : (m : ℕ) (w : List ℕ) (k i : ℕ) → drop n (marks_from row m w k i) ≡ drop n w
  marks-beyond m w zero i = refl
  marks-beyond m w (suc k) i = elim (test (climb_from row w m i)) [
    | holds t ↦ rw t (marks-beyond m (mark_from row w m i) k (suc i) ∙ mark-beyond w m i)
    | fails t ↦ rw t
  ]

-- clearing them leaves the words as they were at first
pub all-cleared : (u w p : List ℕ) (n : ℕ) → n ≤ length w → w ≡ replicate (length w) 0 → drop n u ≡ drop n w → p ≡ replicate n 0 → p ++ drop n u ≡ w
all-cleared u w p n f clear b c =
    let z : length w ≡ n + (length w - n) = omega arith in
    let d : drop n w ≡ zeros (length w - n) = ap (drop n) (clear ∙ ap zeros z) ∙ drop-zeros n (length w - n) in
    ap (λ q. q ++ drop n u) c ∙ ap (λ (l : List ℕ). replicate n 0 ++ l) (b ∙ d) ∙ replicate-append-replicate n (length w - n) 0 ∙ ap zeros (sym z) ∙ sym clear
