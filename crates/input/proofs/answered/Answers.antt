-- The code makes of the answer what `behind` says.
use Rattle.std.proofs.Common.{arith, ◌≡◌, ◌+◌, ne_eqb}
use Rattle.input.specs.Buffered.{behind}
use Rattle.input.proofs.answered.Goals as goal

pub returns-in-Ok-eq0 : goal.returns-in-Ok-eq0
unfolding behind
returns-in-Ok-eq0 c =
    let n : c.in-Ok-eq0.field-0 ≡ 0 = rw c.in-Ok-eq0.is at c.in-Ok-eq0.field-0-test in
    let z : c.args.h.end + 0 ≡ c.args.h.end = omega arith in
    rw (c.in-Ok-eq0.is, n, z)

pub returns-in-Ok : goal.returns-in-Ok
unfolding behind
returns-in-Ok c = let n = rw c.in-Ok.is at c.in-Ok.n-test in rw (c.in-Ok.is, ne_eqb c.in-Ok.n 0 n.1)

pub returns-in-Err : goal.returns-in-Err
unfolding behind
returns-in-Err c = rw c.in-Err.is
