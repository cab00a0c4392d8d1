-- What the tests of the rights word say of its bits: each law once, over the bit's number.
use Rattle.std.specs.Prelude.{ℕ, ◌/◌, ◌%◌, ◌^◌, ◌≡◌, refl, Bool, true, false, ◌&&◌, ◌||◌, ◌↔◌, [], ◌∷◌, map, T, eqb}
use Rattle.std.proofs.Common.{sym, ap, ◌∙◌, subst, eqb→eq}
use Rattle.std.specs.Int.Bits.{bit_and}
use Rattle.std.proofs.Math.Dec.{eqb_refl}
use Rattle.std.specs.Float.Ieee.Fits.{and_l, eq→eqb}
use Rattle.rights.specs.Rights.{READ, WRITE, EXEC, SUPER, HASH, CLEANUP, VITAL, UNCACHEABLE, union, contains, with_extras, allowed}
use Rattle.rights.specs.Counters.{intersects, one_if}
use Rattle.rights.specs.Bits.{bit-or, bit-and, bit-digit, bit-power, same_bits, some-bit, bit}

-- The flags are the bits 0 to 7.
pub flag-bits : map (λ k. 2 ^ k) (0 ∷ 1 ∷ 2 ∷ 3 ∷ 4 ∷ 5 ∷ 6 ∷ 7 ∷ [])
    ≡ READ ∷ WRITE ∷ EXEC ∷ SUPER ∷ HASH ∷ CLEANUP ∷ VITAL ∷ UNCACHEABLE ∷ []
flag-bits = refl

-- The union's bits are those of either word.
pub bit-union : (k a b : ℕ) → bit k (union a b) ≡ (bit k a || bit k b)
bit-union = bit-or

and_same : (x y : Bool) → (T y → T x) → (x && y) ≡ y
and_same true y h = refl
and_same false true h = absurd (h tt)
and_same false false h = refl

-- A word contains another exactly if each bit of the other is its own.
pub contains-bits : (a b : ℕ) → T (contains a b) ↔ ((k : ℕ) → T (bit k b) → T (bit k a))
contains-bits a b = (
  λ t k u. and_l (bit k a) (bit k b) (subst T (ap (bit k) (sym (eqb→eq (bit_and a b) b t)) ∙ bit-and k a b) u),
  λ h. eq→eqb (same_bits (bit_and a b) b (λ k. bit-and k a b ∙ and_same (bit k a) (bit k b) (h k))),
)

-- Two words intersect exactly if some bit is in both.
pub intersects-bits : (a b : ℕ) → T (intersects a b) ↔ ((k : ℕ) × T (bit k a && bit k b))
intersects-bits a b = (
  λ t. let w = (some-bit (bit_and a b)).0 t in (w.0, subst T (bit-and w.0 a b) w.1),
  λ w. (some-bit (bit_and a b)).1 (w.0, subst T (sym (bit-and w.0 a b)) w.1),
)

extras-bits : (k p : ℕ) → bit k (with_extras p) ≡ (bit k p || eqb k 4 || eqb k 5 || eqb k 6)
extras-bits k p = simp (bit-union, bit-power k 4, bit-power k 5, bit-power k 6)

-- A child's rights are allowed exactly if each bit is the parent's, or is bit 4, 5 or 6: HASH, CLEANUP or VITAL.
pub allowed-bits : (p c : ℕ) → T (allowed p c) ↔ ((k : ℕ) → T (bit k c) → T (bit k p || eqb k 4 || eqb k 5 || eqb k 6))
allowed-bits p c = (
  λ t k u. subst T (extras-bits k p) ((contains-bits (with_extras p) c).0 t k u),
  λ h. (contains-bits (with_extras p) c).1 (λ k u. subst T (sym (extras-bits k p)) (h k u)),
)

same_test : (x y : Bool) → (T x → T y) → (T y → T x) → x ≡ y
same_test true true f g = refl
same_test true false f g = absurd (f tt)
same_test false true f g = absurd (g tt)
same_test false false f g = refl

-- To contain a single flag is to have its bit.
pub contains-flag : (k word : ℕ) → contains word (2 ^ k) ≡ bit k word
contains-flag k word =
    same_test _ _
    (λ t. (contains-bits word (2 ^ k)).0 t k (subst T (sym (bit-power k k)) (eqb_refl k)))
    (λ t. (contains-bits word (2 ^ k)).1 (λ j u. rw (eqb→eq j k (subst T (bit-power j k) u)) t))

-- A counter is its flag's binary digit.
pub count-flag : (k word : ℕ) → one_if (contains word (2 ^ k)) ≡ word / 2 ^ k % 2
count-flag k word = ap one_if (contains-flag k word) ∙ bit-digit k word
