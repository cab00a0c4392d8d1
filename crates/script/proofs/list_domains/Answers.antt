-- Reached tables are sized. A domain whose lines are printed is the first of those that were left.
use Rattle.std.proofs.Common.{arith}
use Rattle.script_text.proofs.Domains.{domains-begun, domain-printed, domains-printed}
use Rattle.running.specs.Reached.{reached-sized}
use Rattle.script.proofs.list_domains.Goals as goal

pub loop-d-init : goal.loop-d-init
loop-d-init g c = (c.requires.n_in_bounds, λ s h. domains-begun _ s h)

pub list_domain-q-requires-clause-sized : goal.list_domain-q-requires-clause-sized
list_domain-q-requires-clause-sized g c = reached-sized _ _ c.requires.script_tables

pub loop-d-preserved : goal.loop-d-preserved
loop-d-preserved g c = (
  omega (arith, c.list_domain-q.ensures.n_in_bounds_2, c.loop-d.auto.text),
  λ s h. domain-printed _ s h (c.loop-d.invariant.1 s h) c.loop-d-test.true (c.list_domain-q.ensures.prints s h),
)

pub returns-clause-prints : goal.returns-clause-prints
returns-clause-prints g c = λ s h. domains-printed _ s h (c.loop-d.invariant.1 s h) c.loop-d-test.false
