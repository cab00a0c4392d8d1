-- The call that the record names, run.
use Rattle.running.specs.Named.{names-returns}
use borrow.Author.Rules.{rules}
use Rattle.running.proofs.perform.run.Goals as goal

pub returns : goal.returns
returns c = names-returns c.args.r _ c.call_of.ensures _ _ _ _ _ c.run.ensures
