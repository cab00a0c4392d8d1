-- The region is read, its rights joined with the flags, and stored.
use Rattle.send_options.specs.Joining.{add_hcv}
use Rattle.send_options.proofs.joining.add_hcv.Goals as goal

pub returns : goal.returns
unfolding add_hcv
returns c = rw (c.union-ops.ensures, c.rights_of.ensures, c.load-r.ensures) at c.store.ensures
