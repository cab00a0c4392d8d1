-- Marks for numbered slots as bits of 64-bit words.
use Rattle.std.specs.Prelude.{ℕ, ◌+◌, ◌/◌, ◌%◌, ◌^◌, Bool, List, ◌++◌, eqb, leb, length, get_or, set, drop, replicate}
use Rattle.std.specs.Int.Bits.{bit_or}
use Rattle.base.specs.Cases.{pick}

-- Is slot i marked?
unfoldable pub marked : List ℕ → ℕ → Bool
marked w i = eqb (get_or w (i / 64) 0 / 2 ^ (i % 64) % 2) 1

unfoldable pub with_mark : List ℕ → ℕ → List ℕ
with_mark w i = set w (i / 64) (bit_or (get_or w (i / 64) 0) (2 ^ (i % 64)))

-- the words that the marks of n slots stand in
abbrev pub words_for : ℕ → ℕ
words_for n = (n + 63) / 64

-- the marks of n slots cleared
unfoldable pub unmarked : List ℕ → ℕ → List ℕ
unmarked w n = pick (leb (words_for n) (length w)) (replicate (words_for n) 0 ++ drop (words_for n) w) w
