-- By the kind.
use Rattle.std.proofs.Common.{arith, refl, ne_eqb}
use Rattle.answers.specs.Then.{stays}
use Rattle.send_calls.specs.Calls.{send_capa}
use Rattle.send_calls.proofs.send_capa.Goals as goal

pub returns-in-1 : goal.returns-in-1
unfolding send_capa
returns-in-1 c = rw c.in-1.is record { value = refl; left = stays _ c.requires }

pub returns-in-4 : goal.returns-in-4
unfolding send_capa
returns-in-4 c = rw c.in-4.is record { value = refl; left = stays _ c.requires }

pub returns-in-2 : goal.returns-in-2
unfolding send_capa
returns-in-2 c = rw c.in-2.is record { value = c.send_held.ensures.value; left = c.send_held.ensures.left }

pub returns-in_default : goal.returns-in_default
unfolding send_capa
returns-in_default c = rw (ne_eqb c.args.x.kind 1 (λ e. omega arith), ne_eqb c.args.x.kind 4 (λ e. omega arith), ne_eqb c.args.x.kind 2 (λ e. omega arith)) record { value = refl; left = stays _ c.requires }
