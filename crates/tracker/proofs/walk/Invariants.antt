-- What is left of the walk from here is the whole walk from the start.
use Rattle.std.proofs.Common.{◌≡◌, ◌-◌}
use Rattle.tables.specs.View.{view, Sized}
use Rattle.tracker.specs.Walks.{walk}
use Rattle.tracker.proofs.walk.Given as goal

abbrev pub invariant-loop : goal.invariant-loop
invariant-loop l = Sized l.t × (walk l.way l.d l.a (l.most - l.counter) l.c (view l.t) ≡ walk l.way l.d l.a l.most l.initial.c (view l.initial.t))
