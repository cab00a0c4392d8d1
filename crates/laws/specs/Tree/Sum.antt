-- Sums over the slots below a bound. All counting over a table is such a sum of a function of the slot.
use Rattle.std.specs.Prelude.{◌≡◌, refl, ◌≢◌, ℕ, zero, suc, ◌+◌, ◌≤◌, ◌<◌, eqb, if◌then◌else◌}
use Rattle.std.proofs.Common.{sym, ◌∙◌, arith, eq-eqb, ne_eqb}
use Rattle.std.proofs.Math.Decide.{ℕ_discrete}
use Rattle.base.specs.Cases.{lt, ge, cmp}

abbrev pub sum : (ℕ → ℕ) → ℕ → ℕ
sum w zero = 0
sum w (suc n) = sum w n + w n

pub sum-add : (w v u : ℕ → ℕ) (n : ℕ) → ((k : ℕ) → k < n → u k ≡ w k + v k) → sum u n ≡ sum w n + sum v n
sum-add w v u zero h = omega arith
sum-add w v u (suc n) h = omega (arith, sum-add w v u n (λ k i. h k (omega arith)), h n (omega arith))

pub sum-zero : (n : ℕ) → sum (λ k. 0) n ≡ 0
sum-zero zero = refl
sum-zero (suc n) = omega (arith, sum-zero n)

pub sum-each : (n : ℕ) → sum (λ k. 1) n ≡ n
sum-each zero = refl
sum-each (suc n) = omega (arith, sum-each n)

pub sum_same : (w v : ℕ → ℕ) (n : ℕ) → ((k : ℕ) → k < n → w k ≡ v k) → sum w n ≡ sum v n
sum_same w v n h = omega (arith, sum-add v (λ k. 0) w n (λ k i. omega (arith, h k i)), sum-zero n)

pub sum-none : (w : ℕ → ℕ) (n : ℕ) → ((k : ℕ) → k < n → w k ≡ 0) → sum w n ≡ 0
sum-none w n h = sum_same w (λ k. 0) n h ∙ sum-zero n

pub sum-le : (w v : ℕ → ℕ) (n : ℕ) → ((k : ℕ) → w k ≤ v k) → sum w n ≤ sum v n
sum-le w v zero h = omega arith
sum-le w v (suc n) h = omega (arith, sum-le w v n h, h n)

-- the first slot apart
pub sum-front : (w : ℕ → ℕ) (n : ℕ) → sum w (suc n) ≡ w 0 + sum (λ k. w (suc k)) n
sum-front w zero = omega arith
sum-front w (suc n) = omega (arith, sum-front w n)

-- two sums that differ at one slot
pub sum_one : (w v : ℕ → ℕ) (n i : ℕ) → i < n → ((k : ℕ) → k ≢ i → w k ≡ v k) → sum w n + v i ≡ sum v n + w i
sum_one w v zero i l h = absurd (omega arith)
sum_one w v (suc n) i l h = elim (cmp i n) [
  | lt k ↦ omega (arith, sum_one w v n i k h, h n (omega arith))
  | ge k ↦ let e : n ≡ i = omega arith in rw e (omega (arith, sum_same w v i (λ j m. h j (omega arith))))
]

-- two sums that differ at two slots
pub sum-two : (w v : ℕ → ℕ) (n i j : ℕ) → i < n → j < n → i ≢ j → ((k : ℕ) → k ≢ i → k ≢ j → w k ≡ v k) → sum w n + (v i + v j) ≡ sum v n + (w i + w j)
sum-two w v n i j l m d h =
    let u : ℕ → ℕ = λ k. if eqb k i then v k else w k in
    let ui : u i ≡ v i = rw (eq-eqb i i refl) in
    let uo : (k : ℕ) → k ≢ i → u k ≡ w k = λ k x. rw (ne_eqb k i x) in
    let uv : (k : ℕ) → k ≢ j → u k ≡ v k = λ k x. elim (ℕ_discrete k i) [ yes e ↦ rw (eq-eqb k i e) | no e ↦ uo k e ∙ h k e x ] in
    omega (arith, sum_one u w n i l uo, sum_one u v n j m uv, ui, uo j (λ e. d (sym e)))

-- a sum with one slot that counts
pub sum-at : (w : ℕ → ℕ) (n i : ℕ) → i < n → ((k : ℕ) → k ≢ i → w k ≡ 0) → sum w n ≡ w i
sum-at w n i l h = omega (arith, sum_one w (λ k. 0) n i l h, sum-zero n)

-- the one slot below n that has number i
pub sum-pick : (n i v : ℕ) → i < n → sum (λ k. if eqb i k then v else 0) n ≡ v
sum-pick n i v h = sum-at (λ k. if eqb i k then v else 0) n i h (λ k m. rw (ne_eqb i k (λ e. m (sym e)))) ∙ rw (eq-eqb i i refl)

pub sum-pick-le : (n i v : ℕ) → sum (λ k. if eqb i k then v else 0) n ≤ v
sum-pick-le n i v = elim (cmp i n) [
  | lt h ↦ omega (arith, sum-pick n i v h)
  | ge h ↦ omega (arith, sum_same (λ k. if eqb i k then v else 0) (λ k. 0) n (λ k m. rw (ne_eqb i k (λ e. omega arith))), sum-zero n)
]

pub sum_ones : (w : ℕ → ℕ) (n : ℕ) → ((k : ℕ) → k < n → 0 < w k) → n ≤ sum w n
sum_ones w zero h = omega arith
sum_ones w (suc n) h = omega (arith, sum_ones w n (λ k m. h k (omega arith)), h n (omega arith))

pub sum_lt : (w v : ℕ → ℕ) (n i : ℕ) → i < n → ((k : ℕ) → w k ≤ v k) → w i < v i → sum w n < sum v n
sum_lt w v zero i l h s = absurd (omega arith)
sum_lt w v (suc n) i l h s = elim (cmp i n) [
  | lt k ↦ omega (arith, sum_lt w v n i k h s, h n)
  | ge k ↦ let e : n ≡ i = omega arith in rw e (omega (arith, sum-le w v i h))
]

pub sum-get : (w : ℕ → ℕ) (n i : ℕ) → i < n → w i ≤ sum w n
sum-get w zero i l = absurd (omega arith)
sum-get w (suc n) i l = elim (cmp i n) [
  | lt k ↦ omega (arith, sum-get w n i k)
  | ge k ↦ let e : n ≡ i = omega arith in rw e (omega arith)
]

pub sum-swap : (w : ℕ → ℕ → ℕ) (m n : ℕ) → sum (λ i. sum (λ j. w i j) n) m ≡ sum (λ j. sum (λ i. w i j) m) n
sum-swap w zero n = sym (sum-zero n)
sum-swap w (suc m) n = omega (arith, sum-swap w m n, sum-add (λ j. sum (λ i. w i j) m) (w m) (λ j. sum (λ i. w i j) (suc m)) n (λ k i. refl))

-- a slot that counts
pub record Found (w : ℕ → ℕ) (n : ℕ) : Type 0 where
  pub at : ℕ
  pub low : at < n
  pub counts : 0 < w at

pub sum-find : (w : ℕ → ℕ) (n : ℕ) → 0 < sum w n → Found w n
sum-find w zero h = absurd (omega arith)
sum-find w (suc n) h = elim (cmp 0 (w n)) [
  | lt k ↦ record { at = n; low = omega arith; counts = k }
  | ge k ↦ let r = sum-find w n (omega arith) in record { at = r.at; low = omega arith; counts = r.counts }
]

-- at most one slot counts, and at most once
pub sum-unique : (w : ℕ → ℕ) (n : ℕ) → ((k : ℕ) → w k ≤ 1) → ((j k : ℕ) → j ≢ k → 0 < w j → 0 < w k → ⊥) → sum w n ≤ 1
sum-unique w zero h u = omega arith
sum-unique w (suc n) h u = elim (cmp 0 (w n)) [
  | lt k ↦ elim (cmp 0 (sum w n)) [
    | lt m ↦ let r = sum-find w n m in absurd (u r.at n (omega arith) r.counts k)
    | ge m ↦ omega (arith, h n)
  ]
  | ge k ↦ omega (arith, sum-unique w n h u)
]
