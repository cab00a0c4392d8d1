-- The way from j on is left to mark.
use Rattle.std.proofs.Common.{◌≡◌, ◌-◌}
use Rattle.sections.specs.Rows.{region_in}
use Rattle.sound_tree.specs.Tree.{mark_from}
use Rattle.sound_tree.proofs.roots.mark.Given as goal

abbrev pub invariant-loop : goal.invariant-loop
invariant-loop l = mark_from (region_in l.p) l.w (l.n - l.counter) l.j ≡ mark_from (region_in l.p) l.initial.w l.n l.i
