-- Sums: that of demand 3, and two whose terms above 0 are paired.
use Rattle.std.specs.Prelude.{◌≡◌, refl, ◌≢◌, ℕ, zero, suc, ◌+◌, ◌<◌, eqb, if◌then◌else◌}
use Rattle.std.proofs.Common.{sym, ap, ◌∙◌, arith, eq-eqb, ne_eqb}
use Rattle.std.proofs.Math.Decide.{ℕ_discrete}
use Rattle.base.specs.Cases.{lt, ge, cmp}
use Rattle.laws.specs.Tree.Sum.{sum, sum_same, sum-at, sum-swap, sum-none}
use Rattle.book.specs.Demand3.{sum_to}

pub sum_is : (w : ℕ → ℕ) (n : ℕ) → sum_to n w ≡ sum w n
sum_is w zero = refl
sum_is w (suc n) = ap (λ c. c + w n) (sum_is w n)

-- ---- two sums whose terms above 0 are paired

module _ (w v : ℕ → ℕ) (n R : ℕ) (at place : ℕ → ℕ) (fore : (k : ℕ) → k < n → 0 < w k → (at k < R) × (v (at k) ≡ w k) × place (at k) ≡ k) (back : (i : ℕ) → i < R → 0 < v i → (place i < n) × (w (place i) ≡ v i) × at (place i) ≡ i) where
  abbrev cell : ℕ → ℕ → ℕ
  cell k i = if eqb (at k) i then w k else 0

  cell-on : (k i : ℕ) → at k ≡ i → cell k i ≡ w k
  cell-on k i e = rw (eq-eqb (at k) i e)

  cell-off : (k i : ℕ) → (at k ≡ i → ⊥) → cell k i ≡ 0
  cell-off k i e = rw (ne_eqb (at k) i e)

  row : (k : ℕ) → k < n → sum (λ i. cell k i) R ≡ w k
  row k u = elim (cmp 0 (w k)) [
    | lt h ↦ let f = fore k u h in sum-at (λ i. cell k i) R (at k) f.0 (λ i e. cell-off k i (λ c. e (sym c))) ∙ cell-on k (at k) refl
    | ge h ↦ let z : w k ≡ 0 = omega arith in sum-none (λ i. cell k i) R (λ i l. elim (ℕ_discrete (at k) i) [ yes e ↦ cell-on k i e ∙ z | no e ↦ cell-off k i e ]) ∙ sym z
  ]

  small : (k i : ℕ) → k < n → i < R → (at k ≡ i → 0 < w k → ⊥) → cell k i ≡ 0
  small k i u l h = elim (ℕ_discrete (at k) i) [
    | yes e ↦ elim (cmp 0 (w k)) [ lt p ↦ absurd (h e p) | ge p ↦ let z : w k ≡ 0 = omega arith in cell-on k i e ∙ z ]
    | no e ↦ cell-off k i e
  ]

  sum-in : (f : ℕ → ℕ) (j : ℕ) → j < n → ((k : ℕ) → k < n → k ≢ j → f k ≡ 0) → sum f n ≡ f j
  sum-in f j u h =
      let g : ℕ → ℕ = λ k. if eqb k j then f k else 0 in
      let gj : g j ≡ f j = rw (eq-eqb j j refl) in
      let go : (k : ℕ) → k ≢ j → g k ≡ 0 = λ k e. rw (ne_eqb k j e) in
      sum_same f g n (λ k l. elim (ℕ_discrete k j) [ yes e ↦ rw (eq-eqb k j e) | no e ↦ h k l e ∙ sym (go k e) ]) ∙ sum-at g n j u go ∙ gj

  column : (i : ℕ) → i < R → sum (λ k. cell k i) n ≡ v i
  column i l = elim (cmp 0 (v i)) [
    | lt h ↦ let b = back i l h in sum-in (λ k. cell k i) (place i) b.0 (λ k u e. small k i u l (λ c p. e (sym (fore k u p).2 ∙ ap place c))) ∙ cell-on (place i) i b.2 ∙ b.1
    | ge h ↦ let z : v i ≡ 0 = omega arith in sum-none (λ k. cell k i) n (λ k u. small k i u l (λ c p. let f = (fore k u p).1 in let d : v (at k) ≡ v i = ap v c in omega arith)) ∙ sym z
  ]

  pub paired : sum w n ≡ sum v R
  paired = sym (sum_same (λ k. sum (λ i. cell k i) R) w n row) ∙ sum-swap cell n R ∙ sum_same (λ i. sum (λ k. cell k i) n) v R column
