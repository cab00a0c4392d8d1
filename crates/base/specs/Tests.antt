-- Tests: as a type and as an equation, two tests as one, and a test of numbers one after the other.
use Rattle.std.specs.Prelude.{◌≡◌, refl, Bool, true, false, not, ◌||◌, ℕ, zero, suc, ◌+◌, ◌≤◌, ◌<◌, T}
use Rattle.std.proofs.Common.{sym, ap, ◌∙◌, arith}
use Rattle.base.specs.Cases.{lt, ge, cmp}

-- ---- a test as a type

pub is_true : {b : Bool} → T b → b ≡ true
is_true {b = true} t = refl
is_true {b = false} t = absurd t

pub is_false : {b : Bool} → T (not b) → b ≡ false
is_false {b = true} t = absurd t
is_false {b = false} t = refl

pub true-is : {b : Bool} → b ≡ true → T b
true-is e = rw e tt

pub false-is : {b : Bool} → b ≡ false → T b → ⊥
false-is e t = rw e at t

pub true-false : {b : Bool} → b ≡ true → b ≡ false → ⊥
true-false e f = false-is f (true-is e)

pub or_l : (b c : Bool) → T b → T (b || c)
or_l true c t = tt
or_l false c t = absurd t

pub or_r : (b c : Bool) → T c → T (b || c)
or_r true c t = tt
or_r false c t = t

-- ---- two tests as one

abbrev pub both : Bool → Bool → Bool
both true b = b
both false b = false

pub both_true : (a b : Bool) → both a b ≡ true → (a ≡ true) × (b ≡ true)
both_true true b h = (refl, h)
both_true false b h = (h, cc)

pub both-i : (a b : Bool) → a ≡ true → b ≡ true → both a b ≡ true
both-i a b p q = rw (p, q)

-- ---- numbers one after the other

-- k numbers from i on pass the test
unfoldable pub all_from : (ℕ → Bool) → ℕ → ℕ → Bool
all_from p i zero = true
all_from p i (suc k) = both (p i) (all_from p (suc i) k)

pub all-at : (p : ℕ → Bool) (i k : ℕ) → all_from p i k ≡ true → (j : ℕ) → i ≤ j → j < i + k → p j ≡ true
unfolding all_from
all-at p i zero h j a b = absurd (omega arith)
all-at p i (suc k) h j a b =
    let u = both_true (p i) (all_from p (suc i) k) h in
    elim (cmp i j) [
      | lt q ↦ all-at p (suc i) k u.1 j q (omega arith)
      | ge q ↦ let e : i ≡ j = omega arith in sym (ap p e) ∙ u.0
    ]

pub at_all : (p : ℕ → Bool) (i k : ℕ) → ((j : ℕ) → i ≤ j → j < i + k → p j ≡ true) → all_from p i k ≡ true
unfolding all_from
at_all p i zero h = refl
at_all p i (suc k) h = both-i (p i) (all_from p (suc i) k) (h i (omega arith) (omega arith)) (at_all p (suc i) k (λ j a b. h j (omega arith) (omega arith)))
