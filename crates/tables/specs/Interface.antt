-- The bits of a domain's interface, as the code's constants name them (document 02, request 2).
use Rattle.std.specs.Prelude.{ℕ, ◌+◌}

abbrev pub SEND : ℕ
SEND = 2

abbrev pub ALIAS : ℕ
ALIAS = 8

abbrev pub CARVE : ℕ
CARVE = 16

-- the word that a domain opens with: all three
abbrev pub OPEN : ℕ
OPEN = SEND + ALIAS + CARVE
