-- The first i places are made.
use Rattle.std.proofs.Common.{◌≡◌}
use Rattle.new_domain.specs.Fresh.{fresh_to}
use Rattle.new_domain.proofs.fresh_list.Given as goal

abbrev pub invariant-loop-i : goal.invariant-loop-i
invariant-loop-i l = l.slots ≡ fresh_to l.n l.i
