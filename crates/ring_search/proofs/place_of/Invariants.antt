-- The search from i on, with as many rounds as are left, is the search from the read place.
use Rattle.std.proofs.Common.{◌≡◌, ◌-◌}
use Rattle.ring.specs.Ring.{cap}
use Rattle.ring_search.specs.Queueing.{place_of, place_from}
use Rattle.ring_search.proofs.place_of.Given as goal

abbrev pub invariant-loop : goal.invariant-loop
invariant-loop l = place_of l.ring l.slot l.generation ≡ place_from l.ring l.slot l.generation (cap - l.counter) l.i
