-- Where the words lie in the slice they are the part that is lent.
use Rattle.std.proofs.Common.{◌≡◌, ◌+◌, ◌-◌, sym, arith}
use Rattle.words.specs.Runs.{part, fetched-in, fetched-out}
use Rattle.words.proofs.run.Goals as goal

pub returns-then-a-t : goal.returns-then-a-t
unfolding part
returns-then-a-t c = let e : c.args.a + c.args.n - c.args.a ≡ c.args.n = omega arith in rw (fetched-in c.args.t.now c.args.a c.args.n (omega arith), e)

pub returns-else-n-t : goal.returns-else-n-t
returns-else-n-t c = sym (fetched-out c.args.t.now c.args.a c.args.n (grind arith))
