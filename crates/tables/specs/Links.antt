-- A slot number as it is stored: 0 is no slot, k + 1 is slot k.
use Rattle.std.specs.Prelude.{ℕ, ◌+◌, ◌-◌, ◌^◌, ltb}
use Rattle.base.specs.Cases.{pick}

-- the link to a slot, and the slot of a link
abbrev pub link_to : ℕ → ℕ
link_to i = pick (ltb i (2 ^ 64 - 1)) (i + 1) 0

abbrev pub slot_to : ℕ → ℕ
slot_to k = k - 1
