-- What `run` promises of the call is promised of the step that it names, whose arguments are words.
use Rattle.engine.proofs.capas.mityvurno_revoke.Goals as goal

pub returns : goal.returns
returns c = let k = c.run.ensures in let w = c.revoke.ensures.step_words in record { returns = rw c.revoke.ensures.result_value at k; words = (rw c.revoke.ensures.result_value at w, rw c.revoke.ensures.result_value at k) }
