-- By whether there is a manager.
use borrow.Author.Rules.{rules}
use Rattle.naming.specs.Named.{alone-is, under-is}
use Rattle.naming.proofs.opening.Goals as goal

pub returns-then-r-eq-NO_MANAGER : goal.returns-then-r-eq-NO_MANAGER
returns-then-r-eq-NO_MANAGER c = (alone-is c.args.r.a c.args.r.b c.args.r.c c.if-r-eq-NO_MANAGER.true, search rules)

pub returns : goal.returns
returns c = (under-is c.args.r.a c.args.r.b c.args.r.c c.if-r-eq-NO_MANAGER.false, search rules)
