-- The link of the owner.
use borrow.Author.Rules.{rules}
use Rattle.segment.proofs.regions.capa_for.Goals as goal

pub returns : goal.returns
returns c = rw c.link_to.ensures
