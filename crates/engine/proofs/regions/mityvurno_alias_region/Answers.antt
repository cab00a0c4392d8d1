-- What `run` promises of the call is promised of the step that it names, whose arguments are words.
use Rattle.engine.proofs.regions.mityvurno_alias_region.Goals as goal

pub returns : goal.returns
returns c = let k = c.run.ensures in let w = c.alias.ensures.step_words in record { returns = rw c.alias.ensures.result_value at k; words = (rw c.alias.ensures.result_value at w, rw c.alias.ensures.result_value at k) }
