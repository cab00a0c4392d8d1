-- Revoking from here is the whole from the start. The number falls with each child, so the recursion ends.
use Rattle.std.proofs.Common.{◌≡◌}
use Rattle.tables.specs.View.{view, Sized}
use Rattle.revocation.specs.Revoke.{revoke_region}
use Rattle.revocation.proofs.+revoke_region.Given as goal

abbrev pub decreases-revoke_region : goal.decreases-revoke_region
decreases-revoke_region l = l.left

abbrev pub invariant-loop-n : goal.invariant-loop-n
invariant-loop-n l = Sized l.t × (revoke_region l.closing l.n l.i (view l.t) ≡ revoke_region l.closing l.left l.i (view l.initial.t))
