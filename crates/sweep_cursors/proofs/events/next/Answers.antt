-- The event in the place, or none.
use Rattle.std.proofs.Common.{sym, ◌∙◌}
use Rattle.sweep_cursors.specs.Moves.{next-there, next-none}
use Rattle.sweep_cursors.proofs.events.next.Goals as goal

pub returns-then-i-s : goal.returns-then-i-s
returns-then-i-s c = c.min.ensures ∙ sym (next-there c.args.s.now c.args.i c.args.y c.if-i-s.true)

pub returns-else-i-s : goal.returns-else-i-s
returns-else-i-s c = next-none c.args.s.now c.args.i c.args.y c.if-i-s.false
