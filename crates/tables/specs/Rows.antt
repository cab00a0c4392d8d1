-- The one law of every table of rows: what row i is, and that a store in it changes just that row.
use Rattle.std.specs.Prelude.{◌≡◌, List, [], ℕ, suc, ◌+◌, ◌*◌, ◌≤◌, ◌<◌, ltb, length, get_or, set}
use Rattle.std.proofs.Math.Path.{sym}
use Rattle.std.proofs.Common.{ap, subst, ◌∙◌, mul-le-mul_right, arith, lt-ltb, le-ltb}
use Rattle.std.proofs.Math.ListN.{get_or-eq_default}
use Rattle.std.proofs.lemmas.List.Edits.{sets}
use Rattle.std.proofs.Math.Seq.{set_out}
use Rattle.base.specs.Cases.{pick, cmp, lt, ge}
use Rattle.words.specs.Runs.{part, length_part, sets-all, fetched, fetched-in, fetched-out, stored, stored-in, stored-out}
use Rattle.words.specs.Rows.{rows, length-rows, get_d_rows, rows-sets}
use Rattle.words.specs.Cuts.{cuts, offset, cuts-part}
use Rattle.sizes.specs.declared.Sizes.{Sizes}
use Rattle.sizes.specs.Sizes.{sizes_of, widths, sections}
use Rattle.tables.specs.View.{Sized}
use Rattle.tables.specs.Sections.{section, section-length, section-inside, Only, only_same, only-sets, section-sets}

-- where row i stands of the n rows of w words from o on; m, the end of the words, where there is none
unfoldable pub row_at : ℕ → ℕ → ℕ → ℕ → ℕ → ℕ
row_at m o n w i = pick (ltb i n) (o + i * w) m

-- the same of the rows in section k
abbrev pub placed : List ℕ → ℕ → ℕ → ℕ → ℕ → ℕ
placed t k n w i = row_at (length t) (offset (widths (sizes_of t)) k) n w i

-- what a place is asked for: the rows lie in the words
pub rows_inside : (t : List ℕ) (k o n w : ℕ) (z : Sizes) → Sized t → z ≡ sizes_of t → o ≡ offset (widths z) k → get_or (widths z) k 0 ≡ n * w
    → o + n * w ≤ length t
rows_inside t k o n w z s ez eo ew =
    let h = subst (λ (y : Sizes). offset (widths y) k + get_or (widths y) k 0 ≤ length t) (sym ez) (section-inside t k s) in
    omega arith

pub set_when : {A : Type 0} (l : List A) (i : ℕ) (x y : A) → (i < length l → x ≡ y) → set l i x ≡ set l i y
set_when l i x y h =
    elim (cmp i (length l)) [ lt q ↦ ap (set l i) (h q) | ge q ↦ set_out l i x q ∙ sym (set_out l i y q) ]

-- section k + 1 holds n rows of w words
module _ (t : List ℕ) (k n w : ℕ) (s : Sized t) (hk : suc k < sections) (width : get_or (widths (sizes_of t)) (suc k) 0 ≡ n * w) where
  row_inside : (i j m : ℕ) → i < n → j + m ≤ w → i * w + j + m ≤ n * w
  row_inside i j m h hj = omega (arith, mul-le-mul_right w h)

  row-place : (i : ℕ) → i < n → placed t (suc k) n w i ≡ offset (widths (sizes_of t)) (suc k) + i * w
  unfolding row_at
  row-place i h = rw (lt-ltb i n h)

  no_place : (i : ℕ) → n ≤ i → placed t (suc k) n w i ≡ length t
  unfolding row_at
  no_place i h = rw (le-ltb i n h)

  -- m words from j on of row i
  pub row-fetched : (i j m : ℕ) → i < n → j + m ≤ w → fetched t (placed t (suc k) n w i + j) m ≡ part (section t (suc k)) (i * w + j) m
  row-fetched i j m h hj =
      let o = offset (widths (sizes_of t)) (suc k) in
      let e : o + i * w + j ≡ o + (i * w + j) = omega arith in
      let r : i * w + j + m ≤ get_or (widths (sizes_of t)) (suc k) 0 = rw width (row_inside i j m h hj) in
      rw (row-place i h, e)
      (fetched-in t (o + (i * w + j)) m (omega (arith, section-inside t (suc k) s))
      ∙ sym (cuts-part (widths (sizes_of t)) t (suc k) (i * w + j) m r))

  pub no-row-fetched : (i j m : ℕ) → n ≤ i → 0 < m → fetched t (placed t (suc k) n w i + j) m ≡ []
  no-row-fetched i j m h hm = rw (no_place i h) (fetched-out t (length t + j) m (omega arith))

  pub row_loaded : {A : Type 0} (f : List ℕ → A) (i : ℕ) → 0 < w
      → f (fetched t (placed t (suc k) n w i) w) ≡ get_or (rows w n f (section t (suc k))) i (f [])
  row_loaded f i hw =
      let e : placed t (suc k) n w i + 0 ≡ placed t (suc k) n w i = omega arith in
      let e₂ : i * w + 0 ≡ i * w = omega arith in
      elim (cmp i n) [
        | lt h ↦ ap f (rw (e, e₂) at (row-fetched i 0 w h (omega arith))) ∙ sym (get_d_rows w n f (section t (suc k)) i (f []) h)
        | ge h ↦ ap f (rw e at (no-row-fetched i 0 w h hw)) ∙ sym (get_or-eq_default (rows w n f (section t (suc k))) (f []) {n = i} (rw length-rows h))
      ]

  -- vs stored from word j on of row i
  pub row-stored : {A : Type 0} (f : List ℕ → A) (u vs : List ℕ) (i j : ℕ) → j + length vs ≤ w → 0 < length vs
      → u ≡ stored t (placed t (suc k) n w i + j) vs
      → Only t u (suc k)
      × (rows w n f (get_or (cuts (widths (sizes_of t)) u) (suc k) []) ≡ set (rows w n f (section t (suc k))) i (f (sets (part (section t (suc k)) (i * w) w) j vs)))
  row-stored f u vs i j hj hv eu =
      let o = offset (widths (sizes_of t)) (suc k) in
      let sec = section t (suc k) in
      elim (cmp i n) [
        | lt h ↦
            let r : i * w + j + length vs ≤ get_or (widths (sizes_of t)) (suc k) 0 = rw width (row_inside i j (length vs) h hj) in
            let e : placed t (suc k) n w i + j ≡ o + (i * w + j) = rw (row-place i h) (omega arith) in
            let e₂ : u ≡ sets t (o + (i * w + j)) vs = eu ∙ rw e (stored-in t (o + (i * w + j)) vs (omega (arith, section-inside t (suc k) s))) in
            rw e₂ (
              only-sets t vs (suc k) (i * w + j) hk (unfold offset in omega arith) r,
              rw (section-sets t vs (suc k) (i * w + j) hk r) (rows-sets w n f sec vs i j hj),
            )
        | ge h ↦
            let e : u ≡ t = eu ∙ rw (no_place i h) (stored-out t (length t + j) vs (omega arith)) in
            rw e (only_same t (suc k), sym (set_out (rows w n f sec) i _ (rw length-rows h)))
      ]

  -- all the words of row i stored
  pub row-replaced : {A : Type 0} (f : List ℕ → A) (u vs : List ℕ) (i : ℕ) → length vs ≡ w → 0 < w → u ≡ stored t (placed t (suc k) n w i) vs
      → Only t u (suc k)
      × (rows w n f (get_or (cuts (widths (sizes_of t)) u) (suc k) []) ≡ set (rows w n f (section t (suc k))) i (f vs))
  row-replaced f u vs i hv hw eu =
      let sec = section t (suc k) in
      let e : placed t (suc k) n w i ≡ placed t (suc k) n w i + 0 = omega arith in
      let q = row-stored f u vs i 0 (omega arith) (omega arith) (rw e at eu) in
      let full : i < n → length (part sec (i * w) w) ≡ length vs =
      λ h. length_part sec (i * w) w (omega (arith, row_inside i 0 w h (omega arith), section-length t (suc k) s)) ∙ sym hv in
      (q.0, q.1 ∙ set_when (rows w n f sec) i _ _ (λ h. ap f (sets-all vs (part sec (i * w) w) (full (rw length-rows at h)))))
