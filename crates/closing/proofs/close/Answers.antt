-- As many as there are live domains.
use Rattle.closing.specs.Close.{close}
use Rattle.closing.proofs.close.Goals as goal

pub returns : goal.returns
unfolding close
returns c = record { value = rw c.count-n.ensures at c.close_domain.ensures.value; left = rw c.count-n.ensures at c.close_domain.ensures.left }
