-- The union of a flag for each count.
use Rattle.readings.proofs.Flags.{flags-join}
use Rattle.readings.proofs.get_ops.Goals as goal

pub returns : goal.returns
returns c = flags-join _ _ _ _ _ _ _ _ _ _ c.flag_if.ensures c.flag_if-2.ensures c.union.ensures c.flag_if-3.ensures c.union-2.ensures c.flag_if-4.ensures c.union-3.ensures c.flag_if-5.ensures c.union-ops.ensures
