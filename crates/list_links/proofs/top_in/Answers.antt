-- The first two words of the pool.
use Rattle.list_links.specs.Reads.{pool-top}
use Rattle.list_links.proofs.top_in.Goals as goal

pub returns : goal.returns
returns c = pool-top _ _ _ c.requires c.span_of-s.ensures _ _ c.word.ensures c.word-2.ensures
