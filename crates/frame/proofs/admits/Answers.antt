-- The work area is cleared; then the lengths, then the words.
use mathlib.Core.Path.{sym, ap, ◌∙◌}
use lib.ListN.{length}
use Rattle.frame.specs.Finish.{admits-same, admits-other, zeroed-long, zeroed-clear}
use borrow.Author.Rules.{rules}
use Rattle.frame.proofs.admits.Goals as goal

pub is_sound-requires : goal.is_sound-requires
is_sound-requires c = record { w_len = c.if-w-t.true; w_value = zeroed-clear c.args.w.now _ (c.clear.ensures) }

pub returns-then-w-t : goal.returns-then-w-t
returns-then-w-t c = (c.is_sound.ensures.value ∙ admits-same _ _ (sym (zeroed-long c.args.w.now) ∙ sym (ap length (c.clear.ensures)) ∙ c.if-w-t.true), c.is_sound.ensures.w_unchanged ∙ c.clear.ensures)

pub returns : goal.returns
returns c = (admits-other _ _ (λ e. c.if-w-t.false (ap length (c.clear.ensures) ∙ zeroed-long c.args.w.now ∙ e)), c.clear.ensures)
