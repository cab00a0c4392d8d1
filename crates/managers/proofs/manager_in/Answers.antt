-- The place is in the section.
use Rattle.std.proofs.Common.{arith}
use Rattle.managers.specs.Managers.{place-fits}
use Rattle.managers.proofs.manager_in.Goals as goal

pub overflow_mul-i : goal.overflow_mul-i
overflow_mul-i c = omega (arith, place-fits _ (c.args.i) _ (c.requires) (omega (arith, c.if-i-z.true)) (c.domain_width.ensures))
