-- The way from j on is left to climb.
use Rattle.std.proofs.Common.{◌≡◌, ◌-◌}
use Rattle.sections.specs.Rows.{region_in}
use Rattle.sound_tree.specs.Tree.{climb_from}
use Rattle.sound_tree.proofs.roots.climb.Given as goal

abbrev pub invariant-loop : goal.invariant-loop
invariant-loop l = climb_from (region_in l.p) l.w (l.n - l.counter) l.j ≡ climb_from (region_in l.p) l.w l.n l.i
