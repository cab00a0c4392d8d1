-- The place is behind the last start, and the sums have the same reach.
use Rattle.std.proofs.Common.{le-leb, ◌∙◌}
use Rattle.std.proofs.lemmas.Bool.{lt-leb}
use Rattle.sound_sweep.specs.Steps.{ended}
use Rattle.sound_sweep.proofs.records.ends.Goals as goal

pub returns-then-s-p : goal.returns-then-s-p
returns-then-s-p c = rw (le-leb _ _ c.if-s-p.true) at (ended c.args.s.now c.args.e.now c.args.b c.args.p c.args.m c.upto-last.result c.upto-last.ensures)

pub returns-else-s-p : goal.returns-else-s-p
returns-else-s-p c = lt-leb _ _ c.if-s-p.false ∙ rw (lt-leb _ _ c.if-s-p.false) at (ended c.args.s.now c.args.e.now c.args.b c.args.p c.args.m c.upto-last.result c.upto-last.ensures)
