-- The slots before i are counted.
use Rattle.std.proofs.Common.{◌≡◌}
use Rattle.tables.specs.View.{view}
use Rattle.list_links.specs.Stacks.{may_meet}
use Rattle.sound_lists.specs.Counting.{tally}
use Rattle.sound_lists.proofs.walks.count.Given as goal

abbrev pub invariant-loop-i : goal.invariant-loop-i
invariant-loop-i l = l.k ≡ tally (may_meet (view l.t) l.s) l.i
