-- By the kind.
use Rattle.std.proofs.Common.{arith, refl, ne_eqb}
use Rattle.answers.specs.Then.{stays}
use Rattle.revoke_calls.specs.Calls.{revoke_capa}
use Rattle.revoke_calls.specs.Parts.{revoked_held}
use Rattle.revoke_calls.proofs.revoke_capa.Goals as goal

pub returns-in-1 : goal.returns-in-1
unfolding revoke_capa
returns-in-1 c = rw c.in-1.is record { value = refl; left = stays _ c.requires }

pub returns-in-4 : goal.returns-in-4
unfolding revoke_capa
returns-in-4 c = rw c.in-4.is record { value = c.close_managed.ensures.value; left = c.close_managed.ensures.left }

pub returns-in-2 : goal.returns-in-2
unfolding revoke_capa revoked_held
returns-in-2 c = rw c.in-2.is record { value = c.revoke_held.ensures.value; left = c.revoke_held.ensures.left }

pub returns-in-3 : goal.returns-in-3
unfolding revoke_capa
returns-in-3 c = rw (c.in-3.is, ← c.is_live.ensures, c.if-is_live.true) record { value = c.revoke_unless_root.ensures.value; left = c.revoke_unless_root.ensures.left }

pub returns-in_default : goal.returns-in_default
unfolding revoke_capa
returns-in_default c = rw (c.in-3.is, ← c.is_live.ensures, c.if-is_live.false) record { value = refl; left = stays _ c.requires }

pub returns-in_default-2 : goal.returns-in_default-2
unfolding revoke_capa
returns-in_default-2 c = rw (ne_eqb c.args.x.kind 1 (λ e. omega arith), ne_eqb c.args.x.kind 4 (λ e. omega arith), ne_eqb c.args.x.kind 2 (λ e. omega arith), ne_eqb c.args.x.kind 3 (λ e. omega arith)) record { value = refl; left = stays _ c.requires }
