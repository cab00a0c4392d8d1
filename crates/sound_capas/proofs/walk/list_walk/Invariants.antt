-- The rest of the slots from here, with the marks as they are, are the slots from the start.
use Prim.Native.Nat.{◌-◌}
use Rattle.capa_claims.specs.Lent.{lent, list_claim}
use Rattle.claims.specs.Walk.{marking, walked}
use Rattle.sections.specs.Rows.{slot_in}
use mathlib.Core.Path.{◌≡◌}
use Rattle.sound_capas.proofs.walk.list_walk.Given as goal

abbrev pub invariant-loop-j : goal.invariant-loop-j
invariant-loop-j l = (walked (list_claim (lent l.z l.rl l.rg l.r l.dl l.dg l.p) l.d (slot_in l.s)) l.z.slots 0 (marking l.initial.m l.initial.seen) ≡ walked (list_claim (lent l.z l.rl l.rg l.r l.dl l.dg l.p) l.d (slot_in l.s)) (l.z.slots - l.j) l.j (marking l.m l.seen))
