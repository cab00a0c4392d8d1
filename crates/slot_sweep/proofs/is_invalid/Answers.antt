-- One law for each pair of kinds.
use Rattle.slot_sweep.specs.Sweep.{is_invalid_b}
use Rattle.slot_sweep.specs.Steps.{by-region, by-domain, by-other}
use mathlib.Core.Path.{◌≡◌}
use native.Mathlib.Omega.{arith}
use Rattle.slot_sweep.proofs.is_invalid.Goals as goal

pub returns-in-0 : goal.returns-in-0
unfolding is_invalid_b
returns-in-0 c = rw c.in-0.is

pub returns-in-2 : goal.returns-in-2
unfolding is_invalid_b
returns-in-2 c = rw c.is_live.ensures (by-region _ _ c.args.x.kind (omega arith) (omega arith))

pub returns-in-4 : goal.returns-in-4
unfolding is_invalid_b
returns-in-4 c = rw c.is_live-in-4.ensures (by-domain _ _ c.args.x.kind (omega arith) (omega arith))

pub returns-in_default : goal.returns-in_default
unfolding is_invalid_b
returns-in_default c = let e : c.args.x.kind ≡ 1 = omega arith in rw e

pub returns-in_default-2 : goal.returns-in_default-2
unfolding is_invalid_b
returns-in_default-2 c = by-other _ _ c.args.x.kind (omega arith)
