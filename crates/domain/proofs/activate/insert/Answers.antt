-- The slot, or none is free.
use Rattle.std.specs.Prelude.{Err}
use Rattle.std.proofs.Common.{sym, ap, ◌∙◌}
use Rattle.answers.specs.Then.{passed, or-some, or-none}
use Rattle.domain.specs.Activate.{inserted_answer, insert}
use Rattle.domain.proofs.activate.insert.Goals as goal

pub returns : goal.returns
unfolding insert
returns c = record { value = sym (ap inserted_answer (sym c.insert_capa.ensures.value ∙ or-some _ _ _ (sym c.ok_or.ensures.value ∙ c.in_ok-i.was))); left = c.insert_capa.ensures.left }

pub returns-in_err-i : goal.returns-in_err-i
unfolding insert
returns-in_err-i c = let n = or-none _ _ _ (sym c.ok_or.ensures.value ∙ c.in_err-i.was) in record { value = passed _ _ c.from_residual.ensures.1 ∙ ap Err n.1 ∙ sym (ap inserted_answer (sym c.insert_capa.ensures.value ∙ n.0)); left = c.insert_capa.ensures.left }
