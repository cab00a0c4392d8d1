-- By the two tests.
use Rattle.tables.specs.Zero.{slot-zero}
use mathlib.Core.Path.{◌∙◌}
use borrow.Author.Tests.{lt-ltb, le-ltb}
use Rattle.new_domain.specs.Fresh.{fresh_slot}
use Rattle.new_domain.proofs.fresh_slot.Goals as goal

pub returns-then-k-n : goal.returns-then-k-n
unfolding fresh_slot
returns-then-k-n c = c.free_slot.ensures ∙ rw (lt-ltb _ _ c.if-i-n.true, lt-ltb _ _ c.if-k-n.true)

pub returns-then-i-n : goal.returns-then-i-n
unfolding fresh_slot
returns-then-i-n c = c.free_slot-then-i-n.ensures ∙ rw (lt-ltb _ _ c.if-i-n.true, le-ltb _ _ c.if-k-n.false)

pub returns : goal.returns
unfolding fresh_slot
returns c = (slot-zero c.default.result c.default.ensures) ∙ rw (le-ltb _ _ c.if-i-n.false)
