-- What freeing answers tells whether the record is wiped.
use Rattle.pools.specs.Wiping.{is_done, slot-freed, slot_kept}
use Rattle.std.proofs.Math.Path.{ap}
use Rattle.pools.proofs.free.Goals as goal

pub returns-in_err-push-clause-left : goal.returns-in_err-push-clause-left
returns-in_err-push-clause-left c = slot_kept _ _ _ _ _ c.push.ensures.value c.push.ensures.left (ap is_done c.in_err-push.was)

pub returns-clause-left : goal.returns-clause-left
returns-clause-left c = slot-freed _ _ _ _ _ c.push.ensures.value c.push.ensures.left _ (ap is_done c.in_ok-push.was) c.wipe.ensures
