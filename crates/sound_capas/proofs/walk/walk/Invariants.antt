-- The rest of the domains from here, with the marks as they are, are the domains from the start.
use Prim.Native.Nat.{◌+◌, ◌-◌}
use Rattle.sound_capas.specs.Capas.{row_claim}
use Rattle.claims.specs.Walk.{marking, rows_walked}
use Rattle.tables.specs.View.{view}
use mathlib.Core.Path.{◌≡◌}
use mathlib.Core.Bool.{true}
use Rattle.sound_capas.proofs.walk.walk.Given as goal

abbrev pub invariant-loop-d : goal.invariant-loop-d
invariant-loop-d l = (rows_walked (row_claim (view l.t)) (l.z.slots + 1) l.z.domains 0 (marking l.initial.m (record { fits = true; left = l.want })) ≡ rows_walked (row_claim (view l.t)) (l.z.slots + 1) (l.z.domains - l.d) l.d (marking l.m l.seen))
