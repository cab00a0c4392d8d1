-- The test; the call on admitted tables, of which nothing has to be put back.
use mathlib.Core.Path.{sym, ◌∙◌}
use Rattle.replies.specs.Replies.{reply_of}
use Rattle.frame.specs.Finish.{each_word, kept-clear}
use Rattle.frame.specs.Law.{memory-returns, admitted-sized}
use Rattle.lent_steps.proofs.Unkept.{unkept-returns}
use Rattle.call.specs.Steps.{step_named}
use Rattle.model.specs.Perform.{Call}
use Rattle.lent_steps.proofs.run_unkept.Goals as goal

pub step-answer-requires : goal.step-answer-requires
step-answer-requires c = admitted-sized _ c.args.w.now _ c.admits.ensures.0 c.if-admits.true

pub returns-then-admits : goal.returns-then-admits
returns-then-admits c = unkept-returns _ _ (each_word c.args.t.now (λ i. c.slice_known-1.given i)) _ c.admits.ensures.0 c.if-admits.true _ c.admits.ensures.1 c.args.call c.requires.call_value c.requires.step_words _ _ c.step-answer.ensures.value c.step-answer.ensures.left c.step-answer.auto.t _ c.from.ensures

pub returns : goal.returns
returns c = memory-returns reply_of _ _ (Call.Do (step_named c.args.call)) tt _ c.admits.ensures.0 c.if-admits.false _ _ c.from-2.ensures (c.admits.ensures.1 ∙ sym (kept-clear _ _ (sym c.admits.ensures.0 ∙ c.if-admits.false)))
