-- The rows from i on are left to test and to count.
use Rattle.std.proofs.Common.{◌≡◌, ◌-◌, ◌≤◌}
use Rattle.sections.specs.Rows.{region_in}
use Rattle.sound_tree.specs.Tree.{count_from}
use Rattle.sound_tree.proofs.regions.count_children.Given as goal

abbrev pub invariant-loop-i : goal.invariant-loop-i
invariant-loop-i l = (l.many ≤ l.i) × (count_from l.links (region_in l.p) l.many (l.n - l.i) l.i ≡ count_from l.links (region_in l.p) 0 l.n 0)
