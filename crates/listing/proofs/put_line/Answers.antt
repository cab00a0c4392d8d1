-- Five numbers put one by one.
use Rattle.listing.proofs.Filling.{line-put}
use Rattle.listing.proofs.put_line.Goals as goal

pub returns : goal.returns
returns c = let a = c.args in line-put a.run.now _ _ _ _ _ a.at a.d _ _ _ _ _ c.put.ensures c.put-2.ensures c.put-3.ensures c.get_ops.ensures c.put-4.ensures c.put-5.ensures
