-- The walk in rows, as the code does it: the slots of each domain, and then its head.
use Rattle.std.specs.Prelude.{◌≡◌, refl, Bool, true, false, List, eqb, length, replicate}
use Rattle.std.proofs.Math.Path.{sym, ap}
use Rattle.std.proofs.Common.{◌∙◌}
use Prim.Native.Nat.{ℕ, zero, suc, ◌+◌, ◌-◌, ◌*◌, ◌/◌, ◌%◌, ◌≤◌, ◌<◌}
use native.Mathlib.Omega.{arith}
use Rattle.std.proofs.Math.Arith.{digits_div, digits_mod}
use Rattle.base.specs.Cases.{pick}
use Rattle.base.specs.Tests.{both}
use Rattle.claims.specs.declared.Tally.{Tally}
use Rattle.claims.specs.Claims.{claims_hold}
use Rattle.claims.specs.Marks.{takes, marked, left_by, scan, scan-holds}

-- the marks, and what was seen
pub record Marking : Type 0 where
  pub marks : List ℕ
  pub seen : Tally

abbrev pub marking : List ℕ → Tally → Marking
marking m y = record { marks = m; seen = y }

unfoldable pub taken : Marking → ℕ → Marking
taken k c = marking (marked k.marks c) (record { fits = both (takes k.marks c) k.seen.fits; left = left_by k.seen.left c })

-- n items from item i on
unfoldable pub walked : (ℕ → ℕ) → ℕ → ℕ → Marking → Marking
walked f zero i k = k
walked f (suc n) i k = walked f n (suc i) (taken k (f i))

-- n rows of w items from row d on
unfoldable pub rows_walked : (ℕ → ℕ → ℕ) → ℕ → ℕ → ℕ → Marking → Marking
rows_walked g w zero d k = k
rows_walked g w (suc n) d k = rows_walked g w n (suc d) (walked (g d) w 0 k)

-- ---- the loops' turns

pub walk_start : (f : ℕ → ℕ) (n : ℕ) (k : Marking) → walked f n 0 k ≡ walked f (n - 0) 0 k
walk_start f n k = let e : n ≡ n - 0 = omega arith in ap (λ i. walked f i 0 k) e

pub walk-go : (f : ℕ → ℕ) (n i : ℕ) (k l : Marking) → i < n → l ≡ taken k (f i) → walked f (n - i) i k ≡ walked f (n - (i + 1)) (i + 1) l
unfolding walked
walk-go f n i k l h e =
    let z : n - i ≡ suc (n - (i + 1)) = omega arith in
    let s : suc i ≡ i + 1 = omega arith in
    ap (λ j. walked f j i k) z ∙ (λ x. walked f (n - (i + 1)) (s x) (sym e x))

pub walk_end : (f : ℕ → ℕ) (n i : ℕ) (k : Marking) → n ≤ i → walked f (n - i) i k ≡ k
unfolding walked
walk_end f n i k h = let e : n - i ≡ 0 = omega arith in ap (λ j. walked f j i k) e

pub rows_start : (g : ℕ → ℕ → ℕ) (w n : ℕ) (k : Marking) → rows_walked g w n 0 k ≡ rows_walked g w (n - 0) 0 k
rows_start g w n k = let e : n ≡ n - 0 = omega arith in ap (λ i. rows_walked g w i 0 k) e

pub rows-go : (g : ℕ → ℕ → ℕ) (w n d : ℕ) (k l : Marking) → d < n → l ≡ walked (g d) w 0 k → rows_walked g w (n - d) d k ≡ rows_walked g w (n - (d + 1)) (d + 1) l
unfolding rows_walked
rows-go g w n d k l h e =
    let z : n - d ≡ suc (n - (d + 1)) = omega arith in
    let s : suc d ≡ d + 1 = omega arith in
    ap (λ j. rows_walked g w j d k) z ∙ (λ x. rows_walked g w (n - (d + 1)) (s x) (sym e x))

pub rows_end : (g : ℕ → ℕ → ℕ) (w n d : ℕ) (k : Marking) → n ≤ d → rows_walked g w (n - d) d k ≡ k
unfolding rows_walked
rows_end g w n d k h = let e : n - d ≡ 0 = omega arith in ap (λ j. rows_walked g w j d k) e

-- ---- items, one after the other

pub walk_more : (f : ℕ → ℕ) (a b i : ℕ) (k : Marking) → walked f (a + b) i k ≡ walked f b (i + a) (walked f a i k)
unfolding walked
walk_more f zero b i k = let z : 0 + b ≡ b = omega arith in let e : i ≡ i + 0 = omega arith in λ x. walked f (z x) (e x) k
walk_more f (suc a) b i k =
    let z : suc a + b ≡ suc (a + b) = omega arith in
    let e : suc i + a ≡ i + suc a = omega arith in
    ap (λ j. walked f j i k) z ∙ walk_more f a b (suc i) (taken k (f i)) ∙ ap (λ j. walked f b j (walked f a (suc i) (taken k (f i)))) e

-- the same claims from item i on as from item j on
pub walk_same : (f g : ℕ → ℕ) (n i j : ℕ) (k : Marking) → ((x : ℕ) → x < n → f (i + x) ≡ g (j + x)) → walked f n i k ≡ walked g n j k
unfolding walked
walk_same f g zero i j k h = refl
walk_same f g (suc n) i j k h =
    let a : i + 0 ≡ i = omega arith in
    let b : j + 0 ≡ j = omega arith in
    let e : f i ≡ g j = ap f (sym a) ∙ h 0 (omega arith) ∙ ap g b in
    ap (λ c. walked f n (suc i) (taken k c)) e
    ∙ walk_same f g n (suc i) (suc j) (taken k (g j)) (λ x b. let p : suc i + x ≡ i + suc x = omega arith in let q : suc j + x ≡ j + suc x = omega arith in ap f p ∙ h (suc x) (omega arith) ∙ ap g (sym q))

-- nothing is claimed
pub walk_none : (f : ℕ → ℕ) (n i : ℕ) (k : Marking) → ((x : ℕ) → f x ≡ 0) → walked f n i k ≡ k
unfolding walked taken marked takes left_by
walk_none f zero i k h = refl
walk_none f (suc n) i k h = ap (λ c. walked f n (suc i) (taken k c)) (h i) ∙ walk_none f n (suc i) k h

-- ---- rows of w + 1 items are all items

module _ (g : ℕ → ℕ → ℕ) (w : ℕ) where
  -- the item at a place of a row
  abbrev items : ℕ → ℕ
  items i = g (i / (w + 1)) (i % (w + 1))

  item : (d x : ℕ) → x < w + 1 → g d (0 + x) ≡ items (d * (w + 1) + x)
  item d x b =
      let o : 0 + x ≡ x = omega arith in
      ap (g d) o ∙ sym (λ i. g (digits_div d {m = w + 1} {r = x} b i) (digits_mod d {m = w + 1} {r = x} b i))

  pub rows-walk : (n d : ℕ) (k : Marking) → rows_walked g (w + 1) n d k ≡ walked items (n * (w + 1)) (d * (w + 1)) k
  unfolding rows_walked walked
  rows-walk zero d k = let z : 0 ≡ 0 * (w + 1) = omega arith in ap (λ j. walked items j (d * (w + 1)) k) z
  rows-walk (suc n) d k =
      let z : suc n * (w + 1) ≡ (w + 1) + n * (w + 1) = omega arith in
      let e : d * (w + 1) + (w + 1) ≡ suc d * (w + 1) = omega arith in
      let row = walked items (w + 1) (d * (w + 1)) k in
      ap (rows_walked g (w + 1) n (suc d)) (walk_same (g d) items (w + 1) 0 (d * (w + 1)) k (item d))
      ∙ rows-walk n (suc d) row
      ∙ sym (ap (λ j. walked items j (d * (w + 1)) k) z ∙ walk_more items (w + 1) (n * (w + 1)) (d * (w + 1)) k ∙ ap (λ j. walked items (n * (w + 1)) j row) e)

-- ---- the walk is the test of the claims

-- every claim fits, and none is left
abbrev pub ended : Marking → Bool
ended k = both k.seen.fits (eqb k.seen.left 0)

walk-scan : (f : ℕ → ℕ) (n i : ℕ) (k : Marking) → ended (walked f n i k) ≡ both k.seen.fits (scan f n i k.marks k.seen.left)
unfolding walked scan taken
walk-scan f zero i k = refl
walk-scan f (suc n) i k = walk-scan f n (suc i) (taken k (f i)) ∙ turn (takes k.marks (f i)) k.seen.fits (scan f n (suc i) (marked k.marks (f i)) (left_by k.seen.left (f i)))
  where
    turn : (a b c : Bool) → both (both a b) c ≡ both b (pick a c false)
    turn true b c = refl
    turn false true c = refl
    turn false false c = refl

pub walk-holds : (f : ℕ → ℕ) (m : List ℕ) (n want : ℕ) → m ≡ replicate (length m) 0 → ended (walked f n 0 (marking m (record { fits = true; left = want }))) ≡ claims_hold f (length m) n want
walk-holds f m n want e = walk-scan f n 0 (marking m (record { fits = true; left = want })) ∙ scan-holds f m n want e
