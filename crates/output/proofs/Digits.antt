-- The fewest digits that hold a number (crate io) are its decimal digits, and a word has at most 20.
use Rattle.std.specs.Prelude.{◌≡◌, ℕ, zero, suc, ◌-◌, ◌*◌, ◌/◌, ◌%◌, ◌≤◌, ◌<◌, ◌^◌, List, [], ◌∷◌, ◌++◌, length}
use Rattle.std.proofs.Common.{sym, ap, subst, ◌∙◌, arith, pow-suc, mod-lt, mod-eq_of_lt, div-lt_iff_lt-mul, le-div_iff_mul-le, length-append, lt-ltb, le-ltb}
use Rattle.std.proofs.Math.Nat.{pow-le-pow_right, div-lt_self}
use Rattle.base.specs.Cases.{lt, ge, cmp}
use Rattle.io.specs.Digits.{hex_digit_ascii, last_digits, IsDigitCount}
use Rattle.output.specs.Text.{digit, decimal_in, decimal}

glyph-is : (d : ℕ) → d < 10 → hex_digit_ascii d ≡ digit d
glyph-is d h = rw (lt-ltb d 10 h)

-- below a power of ten, the tenth part is below the power before it
tenth-below : (n m : ℕ) → n < 10 ^ suc m → n / 10 < 10 ^ m
tenth-below n m h = (div-lt_iff_lt-mul {k = 10} {x = n} {y = 10 ^ m} (omega arith)).1 (subst (λ (j : ℕ). n < j) (pow-suc 10 m) h)

-- ---- one digit more

module _ (f n : ℕ) where
  one : n < 10 → decimal_in (suc f) n ≡ digit n ∷ []
  unfolding decimal_in
  one h = rw (lt-ltb n 10 h, decimal_in)

  more : 10 ≤ n → decimal_in (suc f) n ≡ decimal_in f (n / 10) ++ (digit (n % 10) ∷ [])
  unfolding decimal_in
  more h = rw (le-ltb n 10 h, decimal_in)

-- ---- the digits are the same

module _ (k n : ℕ) (h : IsDigitCount 10 1 n (suc k)) where
  high : 0 < k → 10 ^ k ≤ n
  high v = let q : suc k - 1 ≡ k = omega arith in subst (λ (j : ℕ). 10 ^ j ≤ n) q (h.2 (omega arith))

  -- below 10 there is one digit
  one-digit : n < 10 → k ≡ 0
  one-digit u = elim (cmp 0 k) [
    | lt v ↦ absurd (omega (arith, high (omega arith), pow-le-pow_right {n = 10} (omega arith) {i = 1} {j = k} v))
    | ge v ↦ omega arith
  ]

  low : 1 < k → 10 ^ (k - 1) ≤ n / 10
  low w =
      let e : k ≡ suc (k - 1) = omega arith in
      let p : 10 ^ k ≡ 10 ^ (k - 1) * 10 = ap (λ (j : ℕ). 10 ^ j) e ∙ pow-suc 10 (k - 1) in
      (le-div_iff_mul-le {k = 10} {x = 10 ^ (k - 1)} {y = n} (omega arith)).1 (subst (λ (j : ℕ). j ≤ n) p (high (omega arith)))

  -- else one more than the tenth part has
  fewer : 10 ≤ n → IsDigitCount 10 1 (n / 10) k
  fewer u = elim (cmp 0 k) [
    | lt v ↦ (v, tenth-below n k h.1, low)
    | ge v ↦ let z : k ≡ 0 = omega arith in absurd (omega (arith, subst (λ (j : ℕ). n < 10 ^ suc j) z h.1))
  ]

digits_in : (k f n : ℕ) → n < f → IsDigitCount 10 1 n k → last_digits 10 k n ≡ decimal_in f n
digits_in zero f n u h = absurd (omega arith)
digits_in (suc k) zero n u h = absurd (omega arith)
digits_in (suc k) (suc f) n u h = elim (cmp n 10) [
  | lt v ↦
      ap (λ (j : ℕ). last_digits 10 j (n / 10) ++ (hex_digit_ascii (n % 10) ∷ [])) (one-digit k n h v)
      ∙ ap (λ (j : ℕ). hex_digit_ascii j ∷ []) (mod-eq_of_lt v)
      ∙ ap (λ (j : ℕ). j ∷ []) (glyph-is n v)
      ∙ sym (one f n v)
  | ge v ↦
      ap (λ (l : List ℕ). l ++ (hex_digit_ascii (n % 10) ∷ [])) (digits_in k f (n / 10) (omega (arith, div-lt_self {n = n} {k = 10} (omega arith) (omega arith))) (fewer k n h v))
      ∙ ap (λ (j : ℕ). decimal_in f (n / 10) ++ (j ∷ [])) (glyph-is (n % 10) (mod-lt n (omega arith)))
      ∙ sym (more f n v)
]

pub digits_decimal : (n k : ℕ) → IsDigitCount 10 1 n k → last_digits 10 k n ≡ decimal n
unfolding decimal
digits_decimal n k h = digits_in k (suc n) n (omega arith) h

-- ---- how many

step-short : (f m n : ℕ) → (10 ≤ n → suc (length (decimal_in f (n / 10))) ≤ suc m) → length (decimal_in (suc f) n) ≤ suc m
step-short f m n h = elim (cmp n 10) [
  | lt v ↦ rw (one f n v) (omega arith)
  | ge v ↦ rw (more f n v) (omega (arith, h v, length-append (decimal_in f (n / 10)) (digit (n % 10) ∷ [])))
]

short-in : (f m n : ℕ) → n < 10 ^ suc m → length (decimal_in f n) ≤ suc m
unfolding decimal_in
short-in zero m n h = omega arith
short-in (suc f) zero n h = step-short f 0 n (λ u. absurd (omega arith))
short-in (suc f) (suc m) n h = step-short f (suc m) n (λ u. omega (arith, short-in f m (n / 10) (tenth-below n (suc m) h)))

-- 2^64 is below 10^20
pub decimal-short : (n : ℕ) → n < 2 ^ 64 → length (decimal n) ≤ 20
unfolding decimal
decimal-short n h = short-in (suc n) 19 n (omega arith)
