-- By the kind.
use Rattle.std.proofs.Common.{◌≡◌, arith, eq-eqb, ne_eqb}
use Rattle.base.specs.Cases.{cmp, lt, ge}
use Rattle.checks.specs.Checks.{as_target}
use Rattle.checks.proofs.as_target.Goals as goal

pub returns-in-4 : goal.returns-in-4
unfolding as_target
returns-in-4 c =
    elim (cmp c.args.x.kind 5) [
      | lt q ↦ let e : c.args.x.kind ≡ 4 = omega arith in rw (eq-eqb c.args.x.kind 4 e) c.live_domain.ensures
      | ge q ↦ let e : c.args.x.kind ≡ 5 = omega arith in rw (ne_eqb c.args.x.kind 4 (λ z. omega arith), eq-eqb c.args.x.kind 5 e) c.live_domain.ensures
    ]

pub returns-in_default : goal.returns-in_default
unfolding as_target
returns-in_default c = rw (ne_eqb c.args.x.kind 4 (λ e. omega arith), ne_eqb c.args.x.kind 5 (λ e. omega arith))

pub returns-in_default-2 : goal.returns-in_default-2
unfolding as_target
returns-in_default-2 c = rw (ne_eqb c.args.x.kind 4 (λ e. omega arith), ne_eqb c.args.x.kind 5 (λ e. omega arith))
