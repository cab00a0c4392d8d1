-- What is left of the rounds from here is all of them.
use Rattle.sound_sweep.specs.Rounds.{Round, events}
use Rattle.sound_sweep.proofs.records.inside.Given as goal

abbrev pub invariant-loop-ok : goal.invariant-loop-ok
invariant-loop-ok l = Round l.s l.e l.q l.initial.p l.initial.m l.p l.m l.ok l.at

abbrev pub decreases-loop-ok : goal.decreases-loop-ok
decreases-loop-ok l = events l.s l.e l.p l.m
