-- The list from the link on is left to walk.
use Rattle.std.proofs.Common.{◌≡◌, ◌≤◌}
use Rattle.sections.specs.Rows.{region_in}
use Rattle.sound_tree.specs.Tree.{walk_from, walked}
use Rattle.sound_tree.proofs.lists.walk.Given as goal

abbrev pub invariant-loop-link : goal.invariant-loop-link
invariant-loop-link l = (l.n ≤ l.left) × (walk_from (region_in l.p) l.own l.n l.link l.s ≡ walked (region_in l.p) l.left l.k)

abbrev pub decreases-loop-link : goal.decreases-loop-link
decreases-loop-link l = l.n
