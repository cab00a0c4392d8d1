-- The test; the call on admitted tables; what is kept of it.
use Rattle.replies.specs.Replies.{reply_of}
use Rattle.frame.specs.Finish.{each_word}
use Rattle.frame.specs.Law.{memory-returns, admitted-sized}
use Rattle.lent_steps.specs.Law.{call_returns}
use Rattle.lent_steps.specs.Steps.{ran-step}
use Rattle.call.specs.Steps.{step_named}
use Rattle.model.specs.Perform.{Call}
use Rattle.lent_steps.proofs.run.Goals as goal

pub step-a-requires : goal.step-a-requires
step-a-requires c = admitted-sized _ c.args.w.now _ c.begin.ensures.0 c.if-begin.true

pub returns-then-begin : goal.returns-then-begin
returns-then-begin c =
    let e = ran-step c.args.call _ _ _ c.step-a.ensures.value c.step-a.ensures.left in
    call_returns _ _ (each_word c.args.t.now (λ i. c.slice_known-1.given i)) _ c.begin.ensures.0 c.if-begin.true _ c.begin.ensures.1 (step_named c.args.call) c.requires _ _
    e.0 e.1 c.step-a.auto.t _ _ _ c.finish.ensures.0 c.finish.ensures.1 c.finish.ensures.2

pub returns : goal.returns
returns c = memory-returns reply_of _ _ (Call.Do (step_named c.args.call)) tt _ c.begin.ensures.0 c.if-begin.false _ _ c.from.ensures c.begin.ensures.1
