-- Blank words with three new pools are the empty tables.
use Rattle.making.specs.Made.{made}
use Rattle.making.proofs.make_empty.Goals as goal

pub returns : goal.returns
returns c = made c.args.z _ _ _ _ c.blank.ensures c.fresh.ensures c.fresh-2.ensures c.fresh-3.ensures
