-- Items in rows of S + 1: row d, place j is item d × (S + 1) + j. And sums over the places of a row.
use Rattle.std.specs.Prelude.{◌≡◌, ◌≢◌, ℕ, zero, suc, ◌+◌, ◌*◌, ◌/◌, ◌%◌, ◌≤◌, ◌<◌}
use Rattle.std.proofs.Common.{sym, ap, ◌∙◌, arith, mod-lt, mul-le-mul_right, div-add-mod'}
use Rattle.std.proofs.Math.Arith.{digits_div, digits_mod, digits_lt}
use Rattle.base.specs.Cases.{lt, ge, cmp}
use Rattle.laws.specs.Tree.Sum.{sum, sum-get, sum-none}
use Rattle.exact_capas.specs.Fits.{FitFrom, By}

module _ (D S : ℕ) (g : ℕ → ℕ → ℕ) where
  abbrev pub gridded : ℕ → ℕ
  gridded i = g (i / (S + 1)) (i % (S + 1))

  abbrev at : ℕ → ℕ → ℕ
  at d j = d * (S + 1) + j

  at_row : (d j : ℕ) → j ≤ S → at d j / (S + 1) ≡ d
  at_row d j h = digits_div d {m = S + 1} {r = j} (omega arith)

  at_place : (d j : ℕ) → j ≤ S → at d j % (S + 1) ≡ j
  at_place d j h = digits_mod d {m = S + 1} {r = j} (omega arith)

  at_item : (d j : ℕ) → j ≤ S → gridded (at d j) ≡ g d j
  at_item d j h = λ i. g (at_row d j h i) (at_place d j h i)

  at-below : (d j : ℕ) → d < D → j ≤ S → at d j < D * (S + 1)
  at-below d j b h = digits_lt {q = d} {m = D} {r = j} {c = S + 1} b (omega arith)

  pub row_below_lem : (i : ℕ) → i < D * (S + 1) → i / (S + 1) < D
  row_below_lem i b = elim (cmp (i / (S + 1)) D) [
    | lt h ↦ h
    | ge h ↦ absurd (omega (arith, mul-le-mul_right (S + 1) h, div-add-mod' i (S + 1)))
  ]

  pub place-below : (i : ℕ) → i % (S + 1) ≤ S
  place-below i = omega (arith, mod-lt i {m = S + 1} (omega arith))

  -- the same for rows and places
  pub record Rows (m : ℕ) : Type 0 where
    pub within : (d j : ℕ) → d < D → j ≤ S → g d j ≤ m
    pub once : (d j e k : ℕ) → d < D → j ≤ S → e < D → k ≤ S → 0 < g d j → g d j ≡ g e k → (d ≡ e) × (j ≡ k)

  pub fit-rows : (m : ℕ) → FitFrom gridded m 0 (D * (S + 1)) → Rows m
  fit-rows m f = record {
    within = λ d j b h. omega (arith, f.within (at d j) (omega arith) (omega (arith, at-below d j b h)), at_item d j h);
    once = λ d j e k b h b₂ h₂ p z.
        let same : at d j ≡ at e k = elim (cmp (at d j) (at e k)) [
          | lt o ↦ absurd (f.once (at d j) (at e k) (omega arith) o (omega (arith, at-below e k b₂ h₂)) (omega (arith, at_item d j h)) (at_item d j h ∙ z ∙ sym (at_item e k h₂)))
          | ge o ↦ elim (cmp (at e k) (at d j)) [
            | lt o₂ ↦ absurd (f.once (at e k) (at d j) (omega arith) o₂ (omega (arith, at-below d j b h)) (omega (arith, at_item e k h₂, z)) (at_item e k h₂ ∙ sym z ∙ sym (at_item d j h)))
            | ge o₂ ↦ omega arith
          ]
        ] in
        (sym (at_row d j h) ∙ ap (λ i. i / (S + 1)) same ∙ at_row e k h₂, sym (at_place d j h) ∙ ap (λ i. i % (S + 1)) same ∙ at_place e k h₂);
  }

  pub rows_fit : (m : ℕ) → Rows m → FitFrom gridded m 0 (D * (S + 1))
  rows_fit m r = record {
    within = λ i a b. r.within (i / (S + 1)) (i % (S + 1)) (row_below_lem i (omega arith)) (place-below i);
    once = λ i j a b d p z.
        let x = r.once (i / (S + 1)) (i % (S + 1)) (j / (S + 1)) (j % (S + 1)) (row_below_lem i (omega arith)) (place-below i) (row_below_lem j (omega arith)) (place-below j) p z in
        omega (arith, div-add-mod' i (S + 1), div-add-mod' j (S + 1), ap (λ k. k * (S + 1)) x.0, x.1);
  }

  pub at-by : (c d j : ℕ) → d < D → j ≤ S → g d j ≡ c → By gridded c 0 (D * (S + 1))
  at-by c d j b h e = record { item = at d j; low = omega arith; high = omega (arith, at-below d j b h); claims = at_item d j h ∙ e }

-- ---- sums over places

pub sum-only : (w : ℕ → ℕ) (n i : ℕ) → i < n → ((k : ℕ) → k < n → k ≢ i → w k ≡ 0) → sum w n ≡ w i
sum-only w zero i b h = absurd (omega arith)
sum-only w (suc n) i b h = elim (cmp i n) [
  | lt c ↦ omega (arith, sum-only w n i c (λ k d ne. h k (omega arith) ne), h n (omega arith) (λ e. omega arith))
  | ge c ↦ let e : n ≡ i = omega arith in omega (arith, ap w e, sum-none w n (λ k d. h k (omega arith) (λ z. omega arith)))
]

-- two places that count
pub sum_twice : (w : ℕ → ℕ) (n i j : ℕ) → i < j → j < n → w i + w j ≤ sum w n
sum_twice w zero i j a b = absurd (omega arith)
sum_twice w (suc n) i j a b = elim (cmp j n) [
  | lt c ↦ omega (arith, sum_twice w n i j a c)
  | ge c ↦ let e : n ≡ j = omega arith in omega (arith, ap w e, sum-get w n i (omega arith))
]
