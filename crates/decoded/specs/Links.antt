-- The slot after a slot in a list, and the free link of a slot, by where it stands: first, further down, or not at all.
use Rattle.std.specs.Prelude.{◌≡◌, refl, ◌≢◌, ℕ, zero, suc, ◌+◌, ◌≤◌, ◌<◌, List, [], ◌∷◌, ◌++◌, eqb}
use Rattle.std.proofs.Common.{sym, ap, ◌∙◌, arith, eq-eqb, ne_eqb, subst}
use Rattle.std.proofs.Math.Option.{none}
use Rattle.std.proofs.Math.Decide.{ℕ_discrete}
use Rattle.base.specs.Cases.{lt, ge, cmp, holds, fails, test}
use Rattle.model.specs.Lists.{one_if, count_if, count_up, first_of, after_in}
use Rattle.model.specs.Layout.{slot_or0, free_link}
use Rattle.laws.specs.Stack.{one}

pub after-top : (i : ℕ) (l : List ℕ) → after_in (i ∷ l) i ≡ first_of l
after-top i l = rw (eq-eqb i i refl)

pub after-under : (i j : ℕ) (l : List ℕ) → j ≢ i → after_in (i ∷ l) j ≡ after_in l j
after-under i j l ne = rw (ne_eqb i j (λ e. ne (sym e)))

pub after-out : (l : List ℕ) (i : ℕ) → count_if (eqb i) l ≡ 0 → after_in l i ≡ none
after-out [] i h = refl
after-out (x ∷ l) i h = after-under x i l (λ e. omega (arith, one i x e)) ∙ after-out l i (omega arith)

-- behind other slots, and before a change that starts with the same slot
pub after-behind : (j : ℕ) (b l : List ℕ) → count_if (eqb j) b ≡ 0 → after_in (b ++ l) j ≡ after_in l j
after-behind j [] l h = refl
after-behind j (y ∷ b) l h = after-under y j (b ++ l) (λ e. omega (arith, one j y e)) ∙ after-behind j b l (omega arith)

pub first-before : (b l m : List ℕ) → first_of l ≡ first_of m → first_of (b ++ l) ≡ first_of (b ++ m)
first-before [] l m e = e
first-before (y ∷ b) l m e = refl

pub after-before : (j : ℕ) (b l m : List ℕ) → first_of l ≡ first_of m → after_in l j ≡ after_in m j → after_in (b ++ l) j ≡ after_in (b ++ m) j
after-before j [] l m e h = h
after-before j (y ∷ b) l m e h = elim (test (eqb y j)) [ holds t ↦ rw t (first-before b l m e) | fails t ↦ rw t (after-before j b l m e h) ]

-- ---- free links

pub link-top : (i : ℕ) (l : List ℕ) → free_link (i ∷ l) i ≡ suc (slot_or0 (first_of l))
link-top i l = rw (eq-eqb i i refl)

pub link-under : (i j : ℕ) (l : List ℕ) → j ≢ i → free_link (i ∷ l) j ≡ free_link l j
link-under i j l h = rw (ne_eqb j i h, ne_eqb i j (λ e. h (sym e)))

-- ---- the stack k, k + 1, .. of n slots

pub up-link : (i k n : ℕ) → k ≤ i → suc i < k + n → free_link (count_up k n) i ≡ suc (suc i)
up-link i k zero h j = absurd (omega arith)
up-link i k (suc zero) h j = absurd (omega arith)
up-link i k (suc (suc n)) h j = elim (cmp k i) [
  | lt l ↦ link-under k i (count_up (suc k) (suc n)) (λ e. omega arith) ∙ up-link i (suc k) (suc n) l (omega arith)
  | ge l ↦ let e : i ≡ k = omega arith in subst (λ (z : ℕ). free_link (count_up k (suc (suc n))) z ≡ suc (suc z)) (sym e) (link-top k (count_up (suc k) (suc n)))
]

pub up-last : (i k n : ℕ) → k ≤ i → suc i ≡ k + n → free_link (count_up k n) i ≡ 1
up-last i k zero h j = absurd (omega arith)
up-last i k (suc zero) h j = let e : i ≡ k = omega arith in rw e (link-top k [])
up-last i k (suc (suc n)) h j = link-under k i (count_up (suc k) (suc n)) (λ e. omega arith) ∙ up-last i (suc k) (suc n) (omega arith) (omega arith)
