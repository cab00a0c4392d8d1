-- Step after step.
use mathlib.Core.Path.{refl}
use Rattle.answers.specs.Then.{stays, on-done, on-err}
use Rattle.checks.specs.Reads.{ran-region}
use Rattle.send_calls.specs.Calls.{send_held}
use Rattle.base.specs.Clauses.{value_left}
use Rattle.send_calls.proofs.send_held.Goals as goal

pub returns : goal.returns
unfolding send_held
returns c = value_left (on-done _ _ _ _ (ran-region _ _ c.requires _ c.live_region.ensures) _ _ _ c.in_ok-i.was (on-done _ _ _ _ (c.check_options.ensures, stays _ c.requires) _ _ _ c.in_ok-check_options.was (on-done _ _ _ _ (c.send_region.ensures.value, c.send_region.ensures.left) _ _ _ c.in_ok-send_region.was (refl, c.apply_options.ensures))))

pub returns-in_err-send_region : goal.returns-in_err-send_region
unfolding send_held
returns-in_err-send_region c = value_left (on-done _ _ _ _ (ran-region _ _ c.requires _ c.live_region.ensures) _ _ _ c.in_ok-i.was (on-done _ _ _ _ (c.check_options.ensures, stays _ c.requires) _ _ _ c.in_ok-check_options.was (on-err _ _ _ _ (c.send_region.ensures.value, c.send_region.ensures.left) _ c.in_err-send_region.was _ c.from_residual-in_err-send_region.ensures.1)))

pub returns-in_err-check_options : goal.returns-in_err-check_options
unfolding send_held
returns-in_err-check_options c = value_left (on-done _ _ _ _ (ran-region _ _ c.requires _ c.live_region.ensures) _ _ _ c.in_ok-i.was (on-err _ _ _ _ (c.check_options.ensures, stays _ c.requires) _ c.in_err-check_options.was _ c.from_residual-in_err-check_options.ensures.1))

pub returns-in_err-i : goal.returns-in_err-i
unfolding send_held
returns-in_err-i c = value_left (on-err _ _ _ _ (ran-region _ _ c.requires _ c.live_region.ensures) _ c.in_err-i.was _ c.from_residual.ensures.1)
