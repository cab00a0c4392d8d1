-- Slots counted: where as many distinct slots were met as may be met, all that may be met were met.
use Rattle.std.specs.Prelude.{◌≡◌, refl, ℕ, zero, suc, ◌+◌, ◌≤◌, ◌<◌, Bool, true, false, not, List, [], ◌∷◌, eqb, length}
use Rattle.std.proofs.Common.{sym, ap, ◌∙◌, arith, eqb-true, eq-eqb, ne_eqb}
use Rattle.std.proofs.Math.Decide.{ℕ_discrete}
use Rattle.std.proofs.lemmas.Bool.{not-true}
use Rattle.base.specs.Cases.{holds, fails, test}
use Rattle.base.specs.Tests.{both_true, all-at, at_all, true-false}
use Rattle.list_links.specs.Walk.{seen, fresh, mark, covers}

-- how many of n slots pass
abbrev pub tally : (ℕ → Bool) → ℕ → ℕ
tally p zero = 0
tally p (suc n) = mark (p n) + tally p n

-- slots that may be met, none of them twice
abbrev pub Once : (ℕ → Bool) → List ℕ → Type 0
Once ok [] = Unit {0}
Once ok (i ∷ us) = (fresh ok i us ≡ true) × Once ok us

pub mark-most : (b : Bool) → mark b ≤ 1
mark-most true = omega arith
mark-most false = omega arith

pub tally-most : (p : ℕ → Bool) (n : ℕ) → tally p n ≤ n
tally-most p zero = omega arith
tally-most p (suc n) = omega (arith, tally-most p n, mark-most (p n))

-- one slot more, as a loop counts
pub tally-next : (p : ℕ → Bool) (i k m : ℕ) → k ≡ tally p i → m ≡ mark (p i) → k + m ≡ tally p (i + 1)
tally-next p i k m ek em = let z : i + 1 ≡ suc i = omega arith in rw z (omega arith)

tally-same : (p q : ℕ → Bool) (n : ℕ) → ((i : ℕ) → i < n → p i ≡ q i) → tally p n ≡ tally q n
tally-same p q zero h = refl
tally-same p q (suc n) h = omega (arith, ap mark (h n (omega arith)), tally-same p q n (λ i b. h i (omega arith)))

-- ---- what was met, counted

seen_other : (i j : ℕ) (us : List ℕ) → (j ≡ i → ⊥) → seen j (i ∷ us) ≡ seen j us
seen_other i j us ne = rw (ne_eqb j i ne)

seen_same : (i : ℕ) (us : List ℕ) → seen i (i ∷ us) ≡ true
seen_same i us = rw (eq-eqb i i refl)

tally-more : (i n : ℕ) (us : List ℕ) → i < n → seen i us ≡ false → tally (λ j. seen j (i ∷ us)) n ≡ suc (tally (λ j. seen j us) n)
tally-more i zero us h f = absurd (omega arith)
tally-more i (suc n) us h f = elim (ℕ_discrete n i) [
  | yes e ↦
      let t : tally (λ j. seen j (i ∷ us)) n ≡ tally (λ j. seen j us) n = tally-same _ _ n (λ j b. seen_other i j us (λ q. omega arith)) in
      let a : mark (seen n (i ∷ us)) ≡ 1 = ap (λ k. mark (seen k (i ∷ us))) e ∙ ap mark (seen_same i us) in
      let b : mark (seen n us) ≡ 0 = ap (λ k. mark (seen k us)) e ∙ ap mark f in
      omega arith
  | no ne ↦ let a : mark (seen n (i ∷ us)) ≡ mark (seen n us) = ap mark (seen_other i n us ne) in omega (arith, tally-more i n us (omega arith) f)
]

module _ (ok : ℕ → Bool) where
  pub seen-ok : (i : ℕ) (us : List ℕ) → Once ok us → seen i us ≡ true → ok i ≡ true
  seen-ok i [] o h = absurd (true-false h refl)
  seen-ok i (j ∷ us) o h = elim (ℕ_discrete i j) [
    | yes e ↦ ap ok e ∙ (both_true (ok j) (not (seen j us)) o.0).0
    | no ne ↦ seen-ok i us o.1 (sym (seen_other j i us ne) ∙ h)
  ]

  module _ (n : ℕ) (inside : (i : ℕ) → ok i ≡ true → i < n) where
    tally-met : (us : List ℕ) → Once ok us → tally (λ j. seen j us) n ≡ length us
    tally-met [] o = none n
      where
        none : (m : ℕ) → tally (λ j. seen j []) m ≡ 0
        none zero = refl
        none (suc m) = omega (arith, none m)
    tally-met (i ∷ us) o =
        let f = both_true (ok i) (not (seen i us)) o.0 in
        tally-more i n us (inside i f.0) (not-true (seen i us) f.1) ∙ ap suc (tally-met us o.1)

    -- no more are met than there are
    pub once-few : (us : List ℕ) → Once ok us → length us ≤ n
    once-few us o = omega (arith, tally-met us o, tally-most (λ j. seen j us) n)

-- ---- one test that implies another

module _ (p q : ℕ → Bool) where
  abbrev Under : ℕ → Type 0
  Under n = (i : ℕ) → i < n → p i ≡ true → q i ≡ true

  mark-under : (a b : Bool) → (a ≡ true → b ≡ true) → mark a ≤ mark b
  mark-under true b h = omega (arith, ap mark (h refl))
  mark-under false b h = omega arith

  mark-equal : (a b : Bool) → mark a ≡ mark b → a ≡ b
  mark-equal true true e = refl
  mark-equal true false e = absurd (omega arith)
  mark-equal false true e = absurd (omega arith)
  mark-equal false false e = refl

  under-le : (n : ℕ) → Under n → tally p n ≤ tally q n
  under-le zero u = omega arith
  under-le (suc n) u = omega (arith, mark-under (p n) (q n) (u n (omega arith)), under-le n (λ i b. u i (omega arith)))

  under_same : (n : ℕ) → Under n → tally p n ≡ tally q n → (i : ℕ) → i < n → p i ≡ q i
  under_same zero u e i b = absurd (omega arith)
  under_same (suc n) u e i b =
      let a = mark-under (p n) (q n) (u n (omega arith)) in
      let l = under-le n (λ j c. u j (omega arith)) in
      elim (ℕ_discrete i n) [
        | yes z ↦ ap p z ∙ mark-equal (p n) (q n) (omega arith) ∙ sym (ap q z)
        | no ne ↦ under_same n (λ j c. u j (omega arith)) (omega arith) i (omega arith)
      ]

-- ---- all that may be met were met

pub covers_at : (ok : ℕ → Bool) (n : ℕ) (us : List ℕ) → covers ok n us ≡ true → (i : ℕ) → i < n → seen i us ≡ ok i
unfolding covers
covers_at ok n us h i b = mark-equal ok ok (seen i us) (ok i) (eqb-true _ _ (all-at (λ i. eqb (mark (seen i us)) (mark (ok i))) 0 n h i (omega arith) (omega arith)))

pub at-covers : (ok : ℕ → Bool) (n : ℕ) (us : List ℕ) → ((i : ℕ) → i < n → seen i us ≡ ok i) → covers ok n us ≡ true
unfolding covers
at-covers ok n us h = at_all (λ i. eqb (mark (seen i us)) (mark (ok i))) 0 n (λ i a b. rw (h i (omega arith)) (eq-eqb (mark (ok i)) (mark (ok i)) refl))

pub covers-counted : (ok : ℕ → Bool) (n : ℕ) (us : List ℕ) → ((i : ℕ) → ok i ≡ true → i < n) → Once ok us → covers ok n us ≡ eqb (length us) (tally ok n)
covers-counted ok n us inside o = elim (test (covers ok n us)) [
  | holds t ↦ t ∙ sym (eq-eqb _ _ (sym many ∙ tally-same _ _ n (covers_at ok n us t)))
  | fails t ↦ elim (ℕ_discrete (length us) (tally ok n)) [
    | yes e ↦ absurd (true-false (at-covers ok n us (under_same _ _ n (λ i b. seen-ok ok i us o) (many ∙ e))) t)
    | no ne ↦ t ∙ sym (ne_eqb _ _ ne)
  ]
]
  where
    many : tally (λ j. seen j us) n ≡ length us
    many = tally-met ok n inside us o
