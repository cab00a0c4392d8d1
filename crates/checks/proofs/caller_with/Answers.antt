-- The domain, then the bit of its word.
use Rattle.answers.specs.Then.{on-err}
use Rattle.checks.specs.Checks.{caller_with}
use Rattle.checks.specs.Reads.{ran-domain, caller-live}
use Rattle.checks.proofs.caller_with.Goals as goal

pub returns-then-has : goal.returns-then-has
returns-then-has c = rw (caller-live _ _ _ _ _ c.live_domain.ensures c.in_ok-d.was, ← c.load-interface.ensures, ← c.has.ensures, c.if-has.true)

pub returns : goal.returns
returns c = rw (caller-live _ _ _ _ _ c.live_domain.ensures c.in_ok-d.was, ← c.load-interface.ensures, ← c.has.ensures, c.if-has.false)

pub returns-in_err-d : goal.returns-in_err-d
unfolding caller_with
returns-in_err-d c = (on-err _ _ _ _ (ran-domain _ _ c.requires _ c.live_domain.ensures) _ c.in_err-d.was _ c.from_residual.ensures.1).0
