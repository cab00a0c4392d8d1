-- A value that may be missing is missing or is one value.
use Rattle.std.specs.Prelude.{◌≡◌, ℕ}
use Rattle.std.proofs.Math.Option.{Option, none, some}
use Rattle.std.proofs.Common.{arith}

pub none-some : {A : Type 0} (x : Option A) (y : A) → x ≡ none → x ≡ some y → ⊥
none-some x y p q = let z : ◌≡◌ {A = ℕ} 0 1 = cc in omega arith

pub some_same : {A : Type 0} (o : Option A) (x y : A) → o ≡ some x → o ≡ some y → x ≡ y
some_same o x y p q = cc
