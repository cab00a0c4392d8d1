-- Where the words fit, the part is lent and comes back as vs.
use Rattle.std.proofs.Common.{◌+◌, ◌-◌, length, sym, arith}
use Rattle.words.specs.Copies.{copied-back}
use Rattle.words.specs.Runs.{stored-out}
use Rattle.words.proofs.store.Goals as goal

pub returns-then-a-t : goal.returns-then-a-t
returns-then-a-t c = let a = c.args.a in copied-back c.args.t.now c.args.vs.now _ a (a + length c.args.vs.now - a) (omega arith) (omega arith) c.copy.ensures

pub returns-else-n-t : goal.returns-else-n-t
returns-else-n-t c = sym (stored-out c.args.t.now c.args.a c.args.vs.now (grind arith))
