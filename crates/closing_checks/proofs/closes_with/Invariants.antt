-- What is found from here is what is found from domain e.
use Rattle.std.proofs.Common.{◌≡◌, ◌-◌}
use Rattle.tables.specs.View.{view}
use Rattle.closing_checks.specs.Closes.{closes_from, closes_with_b}
use Rattle.closing_checks.proofs.closes_with.Given as goal

abbrev pub invariant-loop : goal.invariant-loop
invariant-loop l = closes_from (view l.t) l.d (l.end - l.counter) l.at ≡ closes_with_b (view l.t) l.d l.e
