-- Tests as code makes them: `a && b` by its branches, and `all` and `count` over a range.
use Rattle.std.specs.Prelude.{◌≡◌, refl, ℕ, zero, suc, ◌+◌, ◌≤◌, ◌<◌, Bool, true, false, ◌&&◌}
use Rattle.std.specs.List.{range_with_len, list_all}
use Rattle.std.proofs.Common.{ap, ◌∙◌, arith}
use Rattle.base.specs.Tests.{both, all_from}

-- ---- `a && b`

pub both-then : (a b : Bool) → a ≡ true → b ≡ both a b
both-then a b h = rw h refl

pub both-else : (a b : Bool) → a ≡ false → a ≡ both a b
both-else a b h = rw h refl

and_both : (a b : Bool) → (a && b) ≡ both a b
and_both true b = refl
and_both false b = refl

-- ---- every number of a range

pub all-range : (p : ℕ → Bool) (a n : ℕ) → list_all p (range_with_len a n) ≡ all_from p a n
unfolding all_from
all-range p a zero = refl
all-range p a (suc n) = and_both (p a) _ ∙ ap (both (p a)) (ap (λ b. list_all p (range_with_len b n)) (let e : a + 1 ≡ suc a = omega arith in e) ∙ all-range p (suc a) n)

-- a test and another that agrees with it on the range
pub all-same : (p q : ℕ → Bool) (a n : ℕ) → ((i : ℕ) → a ≤ i → i < a + n → p i ≡ q i) → all_from p a n ≡ all_from q a n
unfolding all_from
all-same p q a zero h = refl
all-same p q a (suc n) h =
    ap (λ b. both b (all_from p (suc a) n)) (h a (omega arith) (omega arith)) ∙ ap (both (q a)) (all-same p q (suc a) n (λ i k m. h i (omega arith) (omega arith)))

-- what `all` says of the first n numbers, of a test that agrees with q there
pub all-in : (p q : ℕ → Bool) (n m : ℕ) (r : Bool) → r ≡ list_all p (range_with_len 0 n) → n ≡ m → ((i : ℕ) → i < m → p i ≡ q i) → r ≡ all_from q 0 m
all-in p q n m r er en h = er ∙ all-range p 0 n ∙ ap (all_from p 0) en ∙ all-same p q 0 m (λ i a b. h i (omega arith))
