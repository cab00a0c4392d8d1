-- By the test.
use Rattle.checks.specs.Checks.{live_domain}
use Rattle.checks.proofs.live_domain.Goals as goal

pub returns-then-is_live : goal.returns-then-is_live
unfolding live_domain
returns-then-is_live c = rw (← c.is_live.ensures, c.if-is_live.true)

pub returns-else-is_live : goal.returns-else-is_live
unfolding live_domain
returns-else-is_live c = rw (← c.is_live.ensures, c.if-is_live.false)
