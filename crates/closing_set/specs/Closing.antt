-- The closing domains as bits of one word.
use Rattle.std.specs.Prelude.{ℕ, ◌/◌, ◌%◌, ◌^◌, Bool, eqb}
use Rattle.std.specs.Int.Bits.{bit_or}

-- Is domain d closing?
unfoldable pub closing_b : ℕ → ℕ → Bool
closing_b closing d = eqb (closing / 2 ^ (d % 64) % 2) 1

unfoldable pub with_closing : ℕ → ℕ → ℕ
with_closing closing d = bit_or (2 ^ (d % 64)) closing
