-- Step after step.
use Rattle.answers.specs.Then.{on-done, on-err}
use Rattle.send_calls.specs.Parts.{passed}
use Rattle.base.specs.Clauses.{value_left}
use Rattle.send_calls.proofs.pass.Goals as goal

pub returns : goal.returns
unfolding passed
returns c = rw (← c.capa_at-x.ensures) (value_left (on-done _ _ _ _ (c.send_capa.ensures.value, c.send_capa.ensures.left) _ _ _ c.in_ok-send_capa.was (rw c.remove_capa.ensures.seen at c.insert.ensures.value, rw c.remove_capa.ensures.seen at c.insert.ensures.left)))

pub returns-in_err-send_capa : goal.returns-in_err-send_capa
unfolding passed
returns-in_err-send_capa c = rw (← c.capa_at-x.ensures) (value_left (on-err _ _ _ _ (c.send_capa.ensures.value, c.send_capa.ensures.left) _ c.in_err-send_capa.was _ c.from_residual.ensures.1))
