-- The bytes of a number, the lowest first; read back they are the number.
use Rattle.std.specs.Prelude.{◌≡◌, ℕ, zero, suc, ◌+◌, ◌*◌, ◌/◌, ◌%◌, ◌<◌, ◌^◌, List, [], ◌∷◌, ◌++◌}
use Rattle.std.proofs.Common.{ap, subst, ◌∙◌, mod-lt, div-lt_iff_lt-mul, zero-lt-suc, pow-suc, arith}
use Rattle.std.proofs.Math.Nat.{mod-add-div}
use Rattle.byte_numbers.specs.Numbers.{number, Bytes}

-- n bytes of x
abbrev pub bytes_of : ℕ → ℕ → List ℕ
bytes_of zero x = []
bytes_of (suc n) x = x % 256 ∷ bytes_of n (x / 256)

pub number-bytes : (n x : ℕ) → x < 256 ^ n → number (bytes_of n x) ≡ x
number-bytes zero x h = omega arith
number-bytes (suc n) x h =
    ap (λ k. x % 256 + 256 * k) (number-bytes n (x / 256) ((div-lt_iff_lt-mul (zero-lt-suc 255)).1 (subst (λ k. x < k) (pow-suc 256 n) h)))
    ∙ mod-add-div x 256

-- they are bytes, in front of others
pub bytes-then : (n x : ℕ) (l : List ℕ) → Bytes l → Bytes (bytes_of n x ++ l)
bytes-then zero x l h i = h i
bytes-then (suc n) x l h zero = mod-lt x {m = 256} (omega arith)
bytes-then (suc n) x l h (suc i) = bytes-then n (x / 256) l h i
