-- How many digits a word can have.
use Rattle.std.specs.Prelude.{ℕ, ◌-◌, ◌≤◌, ◌<◌, ◌^◌}
use Rattle.std.proofs.Common.{arith}
use Rattle.std.proofs.Math.Nat.{pow-le-pow_right}
use Rattle.base.specs.Cases.{lt, ge, cmp}
use Rattle.io.specs.Digits.{IsDigitCount}

-- 2^64 is below 10^20
pub digits-few : (n k : ℕ) → n < 2 ^ 64 → IsDigitCount 10 1 n k → k ≤ 20
digits-few n k h f = elim (cmp 20 k) [
  | lt u ↦ absurd (omega (arith, pow-le-pow_right {n = 10} (omega arith) {i = 20} {j = k - 1} (omega arith), f.2 (omega arith)))
  | ge u ↦ u
]
