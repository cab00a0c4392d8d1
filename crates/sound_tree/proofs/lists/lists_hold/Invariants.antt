-- The lists from slot i on are left to test.
use Rattle.std.proofs.Common.{◌≡◌, ◌-◌, ◌≤◌}
use Rattle.sections.specs.Rows.{region_in}
use Rattle.sound_tree.specs.Tree.{lists_from}
use Rattle.sound_tree.proofs.lists.lists_hold.Given as goal

abbrev pub invariant-loop-i : goal.invariant-loop-i
invariant-loop-i l = (l.left ≤ 1024) × (lists_from (region_in l.p) l.left (l.n - l.i) l.i ≡ lists_from (region_in l.p) l.many l.n 0)
