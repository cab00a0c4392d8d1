-- One word after the other.
use borrow.Author.Rules.{rules}
use Rattle.bench.proofs.trackers.put_permission.Goals as goal

pub returns : goal.returns
returns c = rw (c.put-3.ensures, c.put-2.ensures, c.put.ensures)
