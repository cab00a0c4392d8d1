-- What is left of the rounds from here is all of them.
use Rattle.std.proofs.Common.{lt-ltb, le-ltb}
use Rattle.base.specs.Tests.{both-i}
use Rattle.sound_sweep.specs.Rounds.{round-start, round-less, round-go, round-end}
use Rattle.sound_sweep.proofs.records.inside.Goals as goal

pub loop-ok-init : goal.loop-ok-init
loop-ok-init c = round-start _ _ _ _ _ _ _ _ c.requires.low c.requires.low_2 c.agrees-ok.ensures c.next.ensures c.next-at.ensures

pub loop-ok-smaller : goal.loop-ok-smaller
loop-ok-smaller c = round-less _ _ _ _ _ _ _ _ _ c.loop-ok.invariant (both-i _ _ c.loop-ok-test.true (lt-ltb _ _ c.if-at-q.true)) _ _ c.upto-p.ensures c.upto-m.ensures

pub loop-ok-preserved : goal.loop-ok-preserved
loop-ok-preserved c =
    round-go _ _ _ _ _ _ _ _ _ c.loop-ok.invariant (both-i _ _ c.loop-ok-test.true (lt-ltb _ _ c.if-at-q.true)) _ _ c.upto-p.ensures c.upto-m.ensures _ _ _ c.agrees-ok-in-loop-ok.ensures c.next-in-loop-ok.ensures c.next-at-in-loop-ok.ensures

pub returns-else-at-q : goal.returns-else-at-q
returns-else-at-q c = round-end _ _ _ _ _ _ _ _ _ c.loop-ok.invariant (rw (c.loop-ok-test.true, le-ltb _ _ c.if-at-q.false))

pub returns-after-loop-ok : goal.returns-after-loop-ok
returns-after-loop-ok c = round-end _ _ _ _ _ _ _ _ _ c.loop-ok.invariant (rw c.loop-ok-test.false)
