-- The test; the oldest update of admitted tables.
use Rattle.std.specs.Prelude.{unwrap_or}
use Rattle.std.proofs.Common.{rules, ◌≡◌, refl, sym, ◌∙◌}
use Rattle.model.specs.Perform.{Call}
use Rattle.ring.specs.Ring.{no_entry}
use Rattle.replies.specs.Replies.{update_reply_of}
use Rattle.frame.specs.Finish.{each_word, kept-clear}
use Rattle.frame.specs.Law.{memory-returns, admitted-sized}
use Rattle.lent_queue.specs.Popping.{pop-returns}
use Rattle.lent_queue.proofs.pop.Goals as goal

pub pop_update-requires : goal.pop_update-requires
pop_update-requires c = admitted-sized _ c.args.w.now _ (c.admits.ensures.0) (c.if-admits.true)

pub returns-then-admits : goal.returns-then-admits
returns-then-admits c =
    let e : c.unwrap_or_default-entry.result ≡ unwrap_or c.pop_update.result no_entry = search rules in
    pop-returns _ _ (each_word c.args.t.now (λ i. c.slice_known-1.given i)) _ (c.admits.ensures.0) (c.if-admits.true) _ _ (c.pop_update.ensures.value) (c.pop_update.ensures.left) _ e _ (c.admits.ensures.1)

pub returns : goal.returns
returns c = rw c.from.ensures (memory-returns update_reply_of _ _ Call.Pop tt _ (c.admits.ensures.0) (c.if-admits.false) _ _ refl (c.admits.ensures.1 ∙ sym (kept-clear _ _ (sym (c.admits.ensures.0) ∙ c.if-admits.false))))
