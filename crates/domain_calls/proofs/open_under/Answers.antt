-- Step after step.
use Rattle.answers.specs.Then.{on-done, on-err}
use Rattle.checks.specs.Reads.{ran-domain}
use Rattle.domain_calls.specs.Parts.{open-under-is}
use Rattle.base.specs.Clauses.{value_left}
use Rattle.domain_calls.proofs.open_under.Goals as goal

pub returns : goal.returns
returns c = rw open-under-is (value_left (on-done _ _ _ _ (ran-domain _ _ c.requires _ c.live_domain.ensures) _ _ _ c.in_ok-m.was (on-done _ _ _ _ (rw c.link_to.ensures at c.new_domain.ensures.value, rw c.link_to.ensures at c.new_domain.ensures.left) _ _ _ c.in_ok-i.was (c.manage.ensures.value, c.manage.ensures.left))))

pub returns-in_err-i : goal.returns-in_err-i
returns-in_err-i c = rw open-under-is (value_left (on-done _ _ _ _ (ran-domain _ _ c.requires _ c.live_domain.ensures) _ _ _ c.in_ok-m.was (on-err _ _ _ _ (rw c.link_to.ensures at c.new_domain.ensures.value, rw c.link_to.ensures at c.new_domain.ensures.left) _ c.in_err-i.was _ c.from_residual-in_err-i.ensures.1)))

pub returns-in_err-m : goal.returns-in_err-m
returns-in_err-m c = rw open-under-is (value_left (on-err _ _ _ _ (ran-domain _ _ c.requires _ c.live_domain.ensures) _ c.in_err-m.was _ c.from_residual.ensures.1))
