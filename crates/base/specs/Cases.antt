-- Branches of definitions by a test, and cases of proofs: views that carry their facts. What a test is once its fact is known, `lt-ltb`, `ne_eqb`
-- and the like, is the library's, borrow.Author.Tests.
use Rattle.std.specs.Prelude.{◌≡◌, refl, Bool, true, false, ℕ, ◌≤◌, ◌<◌}
use Rattle.std.proofs.Math.Decide.{dec_lt}
use Rattle.std.proofs.Common.{arith}

-- ---- a branch

-- x where the test holds, else y
abbrev pub pick : {A : Type 0} → Bool → A → A → A
pick true x y = x
pick false x y = y

pub pick_same : {A : Type 0} (b : Bool) (x : A) → pick b x x ≡ x
pick_same true x = refl
pick_same false x = refl

pub pick-t : {A : Type 0} (b : Bool) (x y : A) → b ≡ true → pick b x y ≡ x
pick-t b x y e = rw e

pub pick-f : {A : Type 0} (b : Bool) (x y : A) → b ≡ false → pick b x y ≡ y
pick-f b x y e = rw e

-- ---- cases

-- the order of two numbers
pub data Cmp (a b : ℕ) : Type 0 where
  lt : a < b → Cmp a b
  ge : b ≤ a → Cmp a b

pub cmp : (a b : ℕ) → Cmp a b
cmp a b = elim (dec_lt a b) [ yes h ↦ lt h | no h ↦ ge (omega arith) ]

-- where a lies about the range from s up to e
pub data Pos (s e a : ℕ) : Type 0 where
  below : a < s → Pos s e a
  inside : s ≤ a → a < e → Pos s e a
  above : e ≤ a → Pos s e a

pub pos : (s e a : ℕ) → Pos s e a
pos s e a = elim (cmp a s) [ lt h ↦ below h | ge h ↦ elim (cmp a e) [ lt k ↦ inside h k | ge k ↦ above k ] ]

-- a test with its fact
pub data Test (b : Bool) : Type 0 where
  holds : b ≡ true → Test b
  fails : b ≡ false → Test b

pub test : (b : Bool) → Test b
test true = holds refl
test false = fails refl
