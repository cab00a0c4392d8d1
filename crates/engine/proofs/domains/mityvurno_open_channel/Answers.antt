-- What `run` promises of the call is promised of the step that it names, whose arguments are words.
use Rattle.engine.proofs.domains.mityvurno_open_channel.Goals as goal

pub returns : goal.returns
returns c = let k = c.run.ensures in let w = c.channel.ensures.step_words in record { returns = rw c.channel.ensures.result_value at k; words = (rw c.channel.ensures.result_value at w, rw c.channel.ensures.result_value at k) }
