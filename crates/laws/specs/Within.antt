-- A value that is one thing inside a range of numbers, and another outside.
use Rattle.std.specs.Prelude.{◌≡◌, ℕ, ◌≤◌, ◌<◌, ltb, cond}
use Rattle.std.proofs.Common.{◌∙◌}
use borrow.Author.Tests.{lt-ltb, le-ltb}
use Rattle.base.specs.Cases.{cmp, pos, lt, ge, below, inside, above}

-- x where s ≤ a < e, else y
unfoldable pub within {ℓ} : {A : Type ℓ} → ℕ → ℕ → ℕ → A → A → A
within s e a x y = cond (ltb a s) y (cond (ltb a e) x y)

module _ {ℓ} {A : Type ℓ} (s e a : ℕ) (x y : A) where
  pub within-lo : a < s → within s e a x y ≡ y
  unfolding within
  within-lo h = rw (lt-ltb a s h)

  pub within_in : s ≤ a → a < e → within s e a x y ≡ x
  unfolding within
  within_in h k = rw (le-ltb a s h, lt-ltb a e k)

  pub within-hi : e ≤ a → within s e a x y ≡ y
  unfolding within
  within-hi k = elim (cmp a s) [ lt h ↦ within-lo h | ge h ↦ rw (le-ltb a s h, le-ltb a e k) ]

  -- where both ends agree it does not matter where a is
  pub within_same : x ≡ y → within s e a x y ≡ y
  within_same p = elim (pos s e a) [ below h ↦ within-lo h | inside h k ↦ within_in h k ∙ p | above k ↦ within-hi k ]

pub ruleset W = (within-lo, within_in, within-hi)
