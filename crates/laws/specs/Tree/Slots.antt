-- A table as a function of the slot number: what is counted by a walk over the table is a sum over its slots.
use Rattle.std.specs.Prelude.{◌≡◌, refl, ℕ, ◌<◌, Bool, List, [], ◌∷◌, T, eqb, length}
use Rattle.std.proofs.Common.{ap, arith, eqb→eq, eq-eqb}
use Rattle.std.proofs.Math.Option.{Option, none, some}
use Rattle.std.proofs.Math.ListN.{get_or-eq_default}
use Rattle.base.specs.Cases.{lt, ge, cmp, holds, fails, test}
use Rattle.base.specs.Tests.{true-is}
use Rattle.base.specs.Options.{none-some}
use Rattle.model.specs.Lists.{one_if, count_if, Each, is_some, at_slot, In}
use Rattle.laws.specs.Tree.Sum.{sum, sum-front}

-- a slot in use lies in the table
pub in-length : {A : Type 0} (l : List (Option A)) (i : ℕ) (x : A) → In l i x → i < length l
in-length l i x h = elim (cmp i (length l)) [
  | lt k ↦ k
  | ge k ↦ absurd (none-some (at_slot l i) x (get_or-eq_default l none k) h)
]

-- a live slot holds something
pub live-is : {A : Type 0} (x : Option A) → T (is_some x) → (y : A) × (x ≡ some y)
live-is none t = absurd t
live-is (some y) t = (y, refl)

pub is_live_lem : {A : Type 0} (x : Option A) (y : A) → x ≡ some y → T (is_some x)
is_live_lem x y e = rw e tt

pub count-sum : {A : Type 0} (p : Option A → Bool) (l : List (Option A)) → count_if p l ≡ sum (λ k. one_if (p (at_slot l k))) (length l)
count-sum p [] = refl
count-sum p (x ∷ l) = omega (arith, count-sum p l, sum-front (λ k. one_if (p (at_slot (x ∷ l) k))) (length l))

-- ---- members of a list of slot numbers: k is there as often as `count_if` says

pub each_in : (P : ℕ → Type 0) (l : List ℕ) → Each P l → (k : ℕ) → 0 < count_if (eqb k) l → P k
each_in P [] e k h = absurd (omega arith)
each_in P (x ∷ l) e k h = elim (test (eqb k x)) [
  | holds t ↦ rw (eqb→eq k x (true-is t)) e.0
  | fails t ↦ each_in P l e.1 k (omega (arith, rw t at h))
]

pub in-each : (P : ℕ → Type 0) (l : List ℕ) → ((k : ℕ) → 0 < count_if (eqb k) l → P k) → Each P l
in-each P [] h = tt
in-each P (x ∷ l) h = (h x (omega (arith, ap one_if (eq-eqb x x refl))), in-each P l (λ k i. h k (omega arith)))
