-- The bits of a number: what the laws of the rights word rest on.
use Rattle.std.specs.Prelude.{ℕ, zero, suc, ◌+◌, ◌/◌, ◌%◌, ◌^◌, ◌≤◌, ◌<◌, ◌≡◌, refl, Bool, true, false, not, ◌&&◌, ◌||◌, ◌↔◌, T, eqb}
use Rattle.std.proofs.Common.{sym, ap, ◌∙◌, subst, pow-suc, one-add, arith, shr-shr}
use Rattle.std.proofs.Math.Nat.{zero-div}
use Rattle.std.proofs.Math.Arith.{half_le}
use Rattle.std.specs.Int.Bits.{bit_and, bit_or}
use Rattle.std.proofs.lemmas.Nat.{and_shr, and_mod, or_shr, or_mod}
use Rattle.std.proofs.Math.Dec.{eqb-zero-suc, eqb-suc-zero, eqb-suc-suc}
use Rattle.std.specs.Float.Ieee.Fits.{eq→eqb}
use Rattle.rights.specs.Rights.{has}
use Rattle.rights.specs.Counters.{one_if}

-- Is bit k set?
abbrev pub bit : ℕ → ℕ → Bool
bit k rights = has rights (2 ^ k)

-- What holds of 0 and of 1 holds of each number's lowest digit.
digit : (P : ℕ → Type 0) → P 0 → P 1 → (x : ℕ) → x < 2 → P x
digit P z o zero h = z
digit P z o (suc zero) h = o
digit P z o (suc (suc x)) h = absurd (omega arith)

lowest : (P : ℕ → Type 0) → P 0 → P 1 → (n : ℕ) → P (n % 2)
lowest P z o n = digit P z o (n % 2) (omega arith)

or-lowest : (m n : ℕ) → eqb (bit_or (m % 2) (n % 2)) 1 ≡ (eqb (m % 2) 1 || eqb (n % 2) 1)
or-lowest m n =
    lowest (λ x. eqb (bit_or x (n % 2)) 1 ≡ (eqb x 1 || eqb (n % 2) 1)) refl (lowest (λ y. eqb (bit_or 1 y) 1 ≡ true) refl refl n) m

and-lowest : (m n : ℕ) → eqb (bit_and (m % 2) (n % 2)) 1 ≡ (eqb (m % 2) 1 && eqb (n % 2) 1)
and-lowest m n =
    lowest (λ x. eqb (bit_and x (n % 2)) 1 ≡ (eqb x 1 && eqb (n % 2) 1)) refl (lowest (λ y. eqb (bit_and 1 y) 1 ≡ eqb y 1) refl refl n) m

pub bit-or : (k a b : ℕ) → bit k (bit_or a b) ≡ (bit k a || bit k b)
bit-or k a b = rw (or_shr a b k, or_mod (a / 2 ^ k) (b / 2 ^ k) 1) (or-lowest (a / 2 ^ k) (b / 2 ^ k))

pub bit-and : (k a b : ℕ) → bit k (bit_and a b) ≡ (bit k a && bit k b)
bit-and k a b = rw (and_shr a b k, and_mod (a / 2 ^ k) (b / 2 ^ k) 1) (and-lowest (a / 2 ^ k) (b / 2 ^ k))

-- A bit as a number is the binary digit.
pub bit-digit : (k a : ℕ) → one_if (bit k a) ≡ a / 2 ^ k % 2
bit-digit k a = lowest (λ x. one_if (eqb x 1) ≡ x) refl refl (a / 2 ^ k)

bit-suc : (k a : ℕ) → bit (suc k) a ≡ bit k (a / 2)
bit-suc k a = rw (← one-add k, ← shr-shr a 1 k)

bit-zero : (k : ℕ) → bit k 0 ≡ false
bit-zero k = rw (zero-div (2 ^ k))

-- A power of two has its own bit and no other.
pub bit-power : (k j : ℕ) → bit k (2 ^ j) ≡ eqb k j
bit-power zero zero = refl
bit-power zero (suc j) =
    let even : 2 ^ suc j / 1 % 2 ≡ 0 = omega (arith, pow-suc 2 j) in
    rw even (sym (eqb-zero-suc j))
bit-power (suc k) zero = bit-suc k 1 ∙ bit-zero k ∙ sym (eqb-suc-zero k)
bit-power (suc k) (suc j) =
    let half : 2 ^ suc j / 2 ≡ 2 ^ j = omega (arith, pow-suc 2 j) in
    bit-suc k (2 ^ suc j) ∙ ap (bit k) half ∙ bit-power k j ∙ sym (eqb-suc-suc k j)

-- Numbers with the same bits are equal.
same-below : (n a b : ℕ) → a ≤ n → b ≤ n → ((k : ℕ) → bit k a ≡ bit k b) → a ≡ b
same-below zero a b p q h = omega arith
same-below (suc n) a b p q h =
    let halves = same-below n (a / 2) (b / 2) (half_le p) (half_le q) (λ k. sym (bit-suc k a) ∙ h (suc k) ∙ bit-suc k b) in
    let lows : a / 1 % 2 ≡ b / 1 % 2 = sym (bit-digit 0 a) ∙ ap one_if (h 0) ∙ bit-digit 0 b in
    omega arith

pub same_bits : (a b : ℕ) → ((k : ℕ) → bit k a ≡ bit k b) → a ≡ b
same_bits a b h = same-below (a + b) a b (omega arith) (omega arith) h

-- A number is not 0 exactly if it has a bit.
bit_below : (n a : ℕ) → a ≤ n → 0 < a → (k : ℕ) × T (bit k a)
bit_below zero a h p = absurd (omega arith)
bit_below (suc n) a h p =
    lowest (λ x. a % 2 ≡ x → (k : ℕ) × T (bit k a))
    (λ even. let w = bit_below n (a / 2) (half_le h) (omega arith) in (suc w.0, subst T (sym (bit-suc w.0 a)) w.1))
    (λ odd. (0, eq→eqb {a = a / 1 % 2} {b = 1} (omega arith)))
    a refl

pub some-bit : (n : ℕ) → T (not (eqb n 0)) ↔ ((k : ℕ) × T (bit k n))
some-bit zero = (λ t. absurd t, λ w. absurd (subst T (bit-zero w.0) w.1))
some-bit (suc n) = (λ t. bit_below (suc n) (suc n) (omega arith) (omega arith), λ w. rw (eqb-suc-zero n) tt)
