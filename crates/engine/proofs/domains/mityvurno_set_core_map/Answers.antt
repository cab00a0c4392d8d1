-- What `run_unkept` promises of the call is promised of the step that it names, whose arguments are words.
use mathlib.Core.Path.{refl}
use Rattle.engine.proofs.domains.mityvurno_set_core_map.Goals as goal

pub run_unkept-requires : goal.run_unkept-requires
run_unkept-requires c = record { step_words = c.set_core_map.ensures.step_words; call_value = rw c.set_core_map.ensures.result_value refl }

pub returns : goal.returns
returns c = let k = c.run_unkept.ensures in let w = c.set_core_map.ensures.step_words in record { returns = rw c.set_core_map.ensures.result_value at k; words = (rw c.set_core_map.ensures.result_value at w, rw c.set_core_map.ensures.result_value at k) }
