-- As many as there are live regions.
use Rattle.revocation.specs.Revoke.{revoke}
use Rattle.revocation.proofs.revoke.Goals as goal

pub returns : goal.returns
unfolding revoke
returns c = record { value = rw c.count-n.ensures at c.revoke_region.ensures.value; left = rw c.count-n.ensures at c.revoke_region.ensures.left }
