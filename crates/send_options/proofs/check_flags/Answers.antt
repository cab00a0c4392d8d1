-- By the tests of the flag word, in their order.
use mathlib.Core.Path.{sym, ◌∙◌}
use Rattle.rights.specs.Laws.{contains-flag}
use Rattle.send_options.specs.Options.{flags_answer}
use borrow.Author.Rules.{rules}
use Rattle.send_options.proofs.check_flags.Goals as goal

pub returns-then-hashed : goal.returns-then-hashed
unfolding flags_answer
returns-then-hashed c = rw (sym c.allows.ensures ∙ c.if-allows.true, c.if-hashed.true)

pub returns-then-contains : goal.returns-then-contains
unfolding flags_answer
returns-then-contains c = rw (sym c.allows.ensures ∙ c.if-allows.true, c.if-hashed.false, sym (contains-flag 4 c.args.flags.0) ∙ sym c.contains.ensures ∙ c.if-contains.true)

pub returns-then-allows : goal.returns-then-allows
unfolding flags_answer
returns-then-allows c = rw (sym c.allows.ensures ∙ c.if-allows.true, c.if-hashed.false, sym (contains-flag 4 c.args.flags.0) ∙ sym c.contains.ensures ∙ c.if-contains.false)

pub returns : goal.returns
unfolding flags_answer
returns c = rw (sym c.allows.ensures ∙ c.if-allows.false)
