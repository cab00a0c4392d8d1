-- The slots from i on are left to test, and to mark.
use Rattle.std.proofs.Common.{◌≡◌, ◌-◌}
use Rattle.sections.specs.Rows.{region_in}
use Rattle.sound_tree.specs.Tree.{rooted_from, marks_from}
use Rattle.sound_tree.proofs.roots.roots_hold.Given as goal

abbrev pub invariant-loop-i : goal.invariant-loop-i
invariant-loop-i l =
    (rooted_from (region_in l.p) l.n l.w (l.n - l.i) l.i ≡ rooted_from (region_in l.p) l.n l.initial.w l.n 0)
    × (marks_from (region_in l.p) l.n l.w (l.n - l.i) l.i ≡ marks_from (region_in l.p) l.n l.initial.w l.n 0)
