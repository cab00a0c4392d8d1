-- A stack of slots without repeats is told by its members, its first slot, and for each member the slot after it.
-- Members are counted: a slot is on the stack as often as `count_if` says, at most once.
use Rattle.std.specs.Prelude.{◌≡◌, refl, ℕ, suc, ◌+◌, ◌≤◌, ◌<◌, Bool, true, false, List, [], ◌∷◌, eqb, ltb, length}
use Rattle.std.proofs.Common.{sym, ap, ◌∙◌, arith, zero-add, eq-eqb, ne_eqb, lt-ltb, le-ltb}
use Rattle.base.specs.Cases.{lt, ge, cmp, holds, fails, test, Cmp}
use Rattle.model.specs.Lists.{one_if, exists, count_if, first_of, after_in}
use Rattle.model.specs.Layout.{slot_or0, free_link}
use Rattle.model.specs.Sound.{OnceEach}
use Rattle.laws.specs.Tree.Sum.{sum, sum-add, sum-at, sum-zero}

pub one : (i k : ℕ) → i ≡ k → one_if (eqb i k) ≡ 1
one i k e = rw (eq-eqb i k e)

pub one_at_most : (b : Bool) → one_if b ≤ 1
one_at_most true = omega arith
one_at_most false = omega arith

-- The members are given as counts, so that two stacks end together.
pub same-stack : (a b : List ℕ) → ((i : ℕ) → count_if (eqb i) a ≡ count_if (eqb i) b) → ((i : ℕ) → count_if (eqb i) a ≤ 1) → slot_or0 (first_of a) ≡ slot_or0 (first_of b) → ((i : ℕ) → 0 < count_if (eqb i) a → slot_or0 (after_in a i) ≡ slot_or0 (after_in b i)) → a ≡ b
same-stack [] [] c o f n = refl
same-stack [] (y ∷ b) c o f n = absurd (omega (arith, c y, one y y refl))
same-stack (x ∷ a) [] c o f n = absurd (omega (arith, c x, one x x refl))
same-stack (x ∷ a) (y ∷ b) c o f n =
    let tail = same-stack a b (λ i. omega (arith, c i, ap (λ k. one_if (eqb i k)) f)) (λ i. omega (arith, o i)) first next in
    λ i. f i ∷ tail i
  where
    first : slot_or0 (first_of a) ≡ slot_or0 (first_of b)
    first = rw (eq-eqb x x refl, eq-eqb y x (sym f)) at (n x (omega (arith, one x x refl)))

    -- a slot that is still to come is not the first one
    next : (i : ℕ) → 0 < count_if (eqb i) a → slot_or0 (after_in a i) ≡ slot_or0 (after_in b i)
    next i h = rw (ne_eqb x i (λ e. omega (arith, o i, one i x (sym e))), ne_eqb y i (λ e. omega (arith, o i, one i x (sym e ∙ sym f)))) at (n i (omega arith))

-- a stack of slots below n is as long as its slots are counted
pub stack-length : (n : ℕ) (l : List ℕ) → ((k : ℕ) → n ≤ k → count_if (eqb k) l ≡ 0) → sum (λ k. count_if (eqb k) l) n ≡ length l
stack-length n [] h = sum-zero n
stack-length n (x ∷ l) h =
    let at = sum-at (λ k. one_if (eqb k x)) n x (below (cmp x n)) (λ k ne. rw (ne_eqb k x ne)) in
    omega (arith, sum-add (λ k. one_if (eqb k x)) (λ k. count_if (eqb k) l) (λ k. count_if (eqb k) (x ∷ l)) n (λ k i. refl), at, one x x refl, stack-length n l (λ k i. omega (arith, h k i)))
  where
    below : Cmp x n → x < n
    below (lt k) = k
    below (ge k) = absurd (omega (arith, h x k, one x x refl))

-- ---- the free stack of n slots, from the links

-- Is a slot on the stack? It is counted, and so it has a link.
pub any-count : {A : Type 0} (p : A → Bool) (l : List A) → exists p l ≡ ltb 0 (count_if p l)
any-count p [] = refl
any-count p (x ∷ l) = elim (test (p x)) [
  | holds t ↦ rw t (sym (lt-ltb 0 (1 + count_if p l) (omega arith)))
  | fails t ↦ rw t (any-count p l ∙ ap (ltb 0) (sym (zero-add (count_if p l))))
]

pub link-in : (l : List ℕ) (i : ℕ) → 0 < count_if (eqb i) l → free_link l i ≡ suc (slot_or0 (after_in l i))
link-in l i h = rw (any-count (eqb i) l ∙ lt-ltb 0 (count_if (eqb i) l) h)

pub link-out : (l : List ℕ) (i : ℕ) → count_if (eqb i) l ≡ 0 → free_link l i ≡ 0
link-out l i h = rw (any-count (eqb i) l ∙ le-ltb 0 (count_if (eqb i) l) (omega arith))

-- so its link says how often it is there
linked : (l : List ℕ) (i : ℕ) → count_if (eqb i) l ≤ 1 → count_if (eqb i) l ≡ one_if (ltb 0 (free_link l i))
linked l i h = elim (cmp 0 (count_if (eqb i) l)) [
  | lt k ↦ omega (arith, ap (λ x. one_if (ltb 0 x)) (link-in l i k), ap one_if (lt-ltb 0 (suc (slot_or0 (after_in l i))) (omega arith)))
  | ge k ↦ omega (arith, ap (λ x. one_if (ltb 0 x)) (link-out l i (omega arith)))
]

-- ---- what `OnceEach` says of one slot

pub once-at-most : (n : ℕ) (used : ℕ → ℕ) (free : List ℕ) → OnceEach n used free → (i : ℕ) → used i + count_if (eqb i) free ≤ 1
once-at-most n used free h i = omega (arith, h i, one_at_most (ltb i n))

pub none-beyond : (n : ℕ) (used : ℕ → ℕ) (free : List ℕ) → OnceEach n used free → (i : ℕ) → n ≤ i → used i + count_if (eqb i) free ≡ 0
none-beyond n used free h i k = rw (le-ltb i n k) at (h i)

-- ---- two pools of n slots with the same links: the same slots are in use, and with the same head the stacks are the same

module _ (n : ℕ) (used : ℕ → ℕ) (a : List ℕ) (h : OnceEach n used a) (used' : ℕ → ℕ) (b : List ℕ) (h' : OnceEach n used' b) (links : (i : ℕ) → i < n → free_link a i ≡ free_link b i) where
  same_count : (i : ℕ) → count_if (eqb i) a ≡ count_if (eqb i) b
  same_count i = elim (cmp i n) [
    | lt k ↦ linked a i (omega (arith, once-at-most n used a h i)) ∙ ap (λ x. one_if (ltb 0 x)) (links i k) ∙ sym (linked b i (omega (arith, once-at-most n used' b h' i)))
    | ge k ↦ omega (arith, none-beyond n used a h i k, none-beyond n used' b h' i k)
  ]

  pub same-used : (i : ℕ) → used i ≡ used' i
  same-used i = omega (arith, h i, h' i, same_count i)

  pub same-free : slot_or0 (first_of a) ≡ slot_or0 (first_of b) → a ≡ b
  same-free f = same-stack a b same_count (λ i. omega (arith, once-at-most n used a h i)) f next
    where
      next : (i : ℕ) → 0 < count_if (eqb i) a → slot_or0 (after_in a i) ≡ slot_or0 (after_in b i)
      next i p = elim (cmp i n) [
        | lt k ↦ omega (arith, links i k, link-in a i p, link-in b i (omega (arith, same_count i)))
        | ge k ↦ absurd (omega (arith, none-beyond n used a h i k))
      ]
