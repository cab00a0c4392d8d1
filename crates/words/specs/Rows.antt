-- Tables of equal records in a run of words: a store in one record changes just that record.
use Rattle.std.proofs.Math.Path.{◌≡◌, refl, ap}
use Rattle.std.proofs.Common.{◌∙◌, mul-le-mul_right, not-suc-le-zero, take-append-drop}
use mathlib.Core.List.{List, [], ◌∷◌, ◌++◌}
use Prim.Native.Nat.{ℕ, zero, suc, ◌+◌, ◌*◌, ◌≤◌, ◌<◌}
use Rattle.std.proofs.Math.Nat.{zero-mul}
use native.Mathlib.Omega.{arith}
use Rattle.std.proofs.Math.ListN.{length, length-take, length-drop}
use Rattle.std.specs.Prelude.{get_or, take, drop, set}
use Rattle.std.proofs.lemmas.List.Edits.{sets}
use Rattle.std.proofs.Math.Seq.{drop-drop}
use Rattle.words.specs.Runs.{part, length_part, sets-all, take-sets-le, take-sets-lt, drop-sets-lt, drop-sets-add}

module _ {A : Type 0} where
  unfoldable pub rows : ℕ → ℕ → (List ℕ → A) → List ℕ → List A
  rows w zero f l = []
  rows w (suc n) f l = f (take w l) ∷ rows w n f (drop w l)

  pub length-rows : (w n : ℕ) (f : List ℕ → A) (l : List ℕ) → length (rows w n f l) ≡ n
  unfolding rows
  length-rows w zero f l = refl
  length-rows w (suc n) f l = ap suc (length-rows w n f (drop w l))

  pub get_d_rows : (w n : ℕ) (f : List ℕ → A) (l : List ℕ) (i : ℕ) (d : A) → i < n → get_or (rows w n f l) i d ≡ f (part l (i * w) w)
  unfolding rows part
  get_d_rows w zero f l i d h = absurd (not-suc-le-zero h)
  get_d_rows w (suc n) f l zero d h = rw zero-mul
  get_d_rows w (suc n) f l (suc i) d h =
      let e : suc i * w ≡ w + i * w = omega arith in
      rw e (get_d_rows w n f (drop w l) i d (omega arith) ∙ ap (λ (x : List ℕ). f (take w x)) (drop-drop (i * w) w l))

  -- one record more at the end
  pub rows_more : (w n : ℕ) (f : List ℕ → A) (l : List ℕ) → rows w (suc n) f l ≡ rows w n f l ++ (f (part l (n * w) w) ∷ [])
  unfolding rows part
  rows_more w zero f l = rw zero-mul
  rows_more w (suc n) f l =
      let e : suc n * w ≡ w + n * w = omega arith in
      rw e (ap (λ (r : List A). f (take w l) ∷ r) (rows_more w n f (drop w l) ∙ rw (drop-drop (n * w) w l)))

  -- a run of stores inside record i changes just that record
  pub rows-sets : (w n : ℕ) (f : List ℕ → A) (l vs : List ℕ) (i k : ℕ) → k + length vs ≤ w
      → rows w n f (sets l (i * w + k) vs) ≡ set (rows w n f l) i (f (sets (part l (i * w) w) k vs))
  unfolding rows part
  rows-sets w zero f l vs i k h = refl
  rows-sets w (suc n) f l vs zero k h =
      let e : 0 * w + k ≡ k = omega arith in
      rw (e, zero-mul, take-sets-lt vs l w k h, drop-sets-lt vs l w k h)
  rows-sets w (suc n) f l vs (suc i) k h =
      let e : suc i * w + k ≡ w + (i * w + k) = omega arith in
      let e₂ : suc i * w ≡ w + i * w = omega arith in
      rw (e, e₂, take-sets-le vs l w (w + (i * w + k)) (omega arith), drop-sets-add vs l w (i * w + k))
      (rw (rows-sets w n f (drop w l) vs i k h, drop-drop (i * w) w l))

  -- all the words of record i stored
  pub rows-store : (w n : ℕ) (f : List ℕ → A) (l vs : List ℕ) (i : ℕ) → length vs ≡ w → i < n → n * w ≤ length l
      → rows w n f (sets l (i * w) vs) ≡ set (rows w n f l) i (f vs)
  rows-store w n f l vs i e h hl =
      let z : i * w + 0 ≡ i * w = omega arith in
      let hp : length (part l (i * w) w) ≡ w = length_part l (i * w) w (omega (arith, mul-le-mul_right w h)) in
      rw z at (rows-sets w n f l vs i 0 (omega arith)) ∙ ap (λ (x : List ℕ). set (rows w n f l) i (f x)) (sets-all vs (part l (i * w) w) (omega arith))

  -- the words of a table, where each record gives its words back
  unfoldable pub flat : (A → List ℕ) → List A → List ℕ
  flat g [] = []
  flat g (x ∷ xs) = g x ++ flat g xs

  pub flat_rows : (w n : ℕ) (f : List ℕ → A) (g : A → List ℕ) → ((p : List ℕ) → length p ≡ w → g (f p) ≡ p)
      → (l : List ℕ) → length l ≡ n * w → flat g (rows w n f l) ≡ l
  unfolding rows flat
  flat_rows w zero f g back [] h = refl
  flat_rows w zero f g back (x ∷ l) h = let z : ◌≡◌ {A = ℕ} 0 1 = omega arith in absurd (omega arith)
  flat_rows w (suc n) f g back l h =
      let hw : length (take w l) ≡ w = simp length-take (omega arith) in
      let hd : length (drop w l) ≡ n * w = simp length-drop (omega arith) in
      rw (back (take w l) hw, flat_rows w n f g back (drop w l) hd) (take-append-drop w l)

-- the words of a run, one by one
unfoldable pub spell : ℕ → (ℕ → ℕ) → List ℕ
spell zero f = []
spell (suc n) f = f 0 ∷ spell n (λ k. f (suc k))

pub spelled : (p : List ℕ) (n : ℕ) → length p ≡ n → spell n (λ k. get_or p k 0) ≡ p
unfolding spell
spelled [] zero h = refl
spelled [] (suc n) h = absurd (omega arith)
spelled (x ∷ p) zero h = absurd (omega arith)
spelled (x ∷ p) (suc n) h = ap (λ (l : List ℕ). x ∷ l) (spelled p n (omega arith))

pub spell-drop : (p : List ℕ) (n : ℕ) → n ≤ length p → spell n (λ k. get_or p k 0) ++ drop n p ≡ p
unfolding spell
spell-drop p zero h = refl
spell-drop [] (suc n) h = absurd (omega arith)
spell-drop (x ∷ p) (suc n) h = ap (λ (l : List ℕ). x ∷ l) (spell-drop p n (omega arith))
