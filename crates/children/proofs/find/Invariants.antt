-- The search from here finds what the search from the first child finds.
use Rattle.std.proofs.Common.{◌≡◌, ◌-◌}
use Rattle.tables.specs.View.{view}
use Rattle.children.specs.Children.{find_from, find}
use Rattle.children.proofs.find.Given as goal

abbrev pub invariant-loop : goal.invariant-loop
invariant-loop l = find_from l.search (view l.t) (l.end - l.counter) l.place ≡ find l.search (view l.t) l.p
