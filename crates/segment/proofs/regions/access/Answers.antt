-- The rights of the word.
use borrow.Author.Rules.{rules}
use Rattle.segment.proofs.regions.access.Goals as goal

pub returns : goal.returns
returns c = λ k. record { start = c.args.start; end = c.args.end; ops = record { 0 = c.rights_of-ops.ensures k } }
