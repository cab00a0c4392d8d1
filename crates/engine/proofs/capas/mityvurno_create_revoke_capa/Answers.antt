-- What `run` promises of the call is promised of the step that it names, whose arguments are words.
use Rattle.engine.proofs.capas.mityvurno_create_revoke_capa.Goals as goal

pub returns : goal.returns
returns c = let k = c.run.ensures in let w = c.create_revoke_capa.ensures.step_words in record { returns = rw c.create_revoke_capa.ensures.result_value at k; words = (rw c.create_revoke_capa.ensures.result_value at w, rw c.create_revoke_capa.ensures.result_value at k) }
