-- By the kind.
use Rattle.std.proofs.Common.{arith, ne_eqb}
use Rattle.checks.specs.Checks.{as_region}
use Rattle.checks.proofs.as_region.Goals as goal

pub returns-in-2 : goal.returns-in-2
unfolding as_region
returns-in-2 c = rw c.in-2.is c.live_region.ensures

pub returns-in_default : goal.returns-in_default
unfolding as_region
returns-in_default c = rw (ne_eqb c.args.x.kind 2 (λ e. omega arith))
