-- The flags join, then the row is stored.
use Rattle.send_options.specs.Joining.{with_options}
use Rattle.send_options.proofs.joining.set_options.Goals as goal

pub returns : goal.returns
unfolding with_options
returns c = rw (← c.add_hcv.ensures.seen) c.store.ensures
