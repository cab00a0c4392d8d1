-- The rest of the way from here is the way from the start.
use Rattle.std.proofs.Common.{◌≡◌, ◌-◌}
use Rattle.managers.specs.Managers.{climbed, manager_in}
use Rattle.managers.proofs.climb.Given as goal

abbrev pub invariant-loop : goal.invariant-loop
invariant-loop l = climbed (manager_in l.z l.p) l.n l.l ≡ climbed (manager_in l.z l.p) (l.n - l.counter) l.at
