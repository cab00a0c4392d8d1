-- Counting the free slots of a pool: those in use and those on the free stack are all the slots together.
use Rattle.std.specs.Prelude.{◌≡◌, refl, ℕ, ◌+◌, ◌≤◌, ◌<◌, List, eqb, length}
use Rattle.std.proofs.Common.{ap, ◌∙◌, arith, lt-ltb}
use Rattle.base.specs.Cases.{lt, ge, cmp}
use Rattle.model.specs.Lists.{one_if, count_if}
use Rattle.model.specs.Sound.{OnceEach}
use Rattle.laws.specs.Stack.{none-beyond, once-at-most, stack-length}
use Rattle.laws.specs.Tree.Sum.{sum, sum-add, sum_same, sum-get, sum-each}

-- a slot on the stack is one of the n
pub stack-below : (n i : ℕ) (l : List ℕ) → ((k : ℕ) → n ≤ k → count_if (eqb k) l ≡ 0) → 0 < count_if (eqb i) l → i < n
stack-below n i l h p = elim (cmp i n) [ lt a ↦ a | ge a ↦ absurd (omega (arith, h i a)) ]

module _ (n : ℕ) (used : ℕ → ℕ) (free : List ℕ) (h : OnceEach n used free) where
  no_more : (k : ℕ) → n ≤ k → count_if (eqb k) free ≡ 0
  no_more k i = omega (arith, none-beyond n used free h k i)

  pub all_slots : sum used n + length free ≡ n
  all_slots =
      let e = sum_same (λ k. used k + count_if (eqb k) free) (λ k. 1) n (λ k i. h k ∙ ap one_if (lt-ltb k n i)) in
      omega (arith, e, sum-each n, sum-add used (λ k. count_if (eqb k) free) (λ k. used k + count_if (eqb k) free) n (λ k i. refl), stack-length n free no_more)

  pub free-fits : length free ≤ n
  free-fits = omega (arith, all_slots)

  -- where a slot is in use
  pub free-room : (i : ℕ) → i < n → used i ≡ 1 → length free < n
  free-room i l u = omega (arith, all_slots, sum-get used n i l)

  pub free-below : (i : ℕ) → 0 < count_if (eqb i) free → i < n
  free-below i p = stack-below n i free no_more p

  pub used-not-free : (i : ℕ) → used i ≡ 1 → count_if (eqb i) free ≡ 0
  used-not-free i u = omega (arith, once-at-most n used free h i)
