-- Each test is what its definition says.
use Rattle.arena.specs.Arena.{live_b}
use Rattle.arena.specs.Words.{links-many}
use Rattle.std.proofs.Common.{lt-ltb, le-ltb, eq-eqb, ne_eqb}
use Rattle.arena.proofs.is_live.Goals as goal

pub returns-then-used : goal.returns-then-used
unfolding live_b
returns-then-used c = rw (links-many _ _ c.requires, lt-ltb _ _ c.if-i-n.true, ← c.link-used.ensures, eq-eqb _ _ c.if-used.true, ← c.generation.ensures)

pub returns-else-used : goal.returns-else-used
unfolding live_b
returns-else-used c = rw (links-many _ _ c.requires, lt-ltb _ _ c.if-i-n.true, ← c.link-used.ensures, ne_eqb _ _ c.if-used.false)

pub returns-else-i-n : goal.returns-else-i-n
unfolding live_b
returns-else-i-n c = rw (links-many _ _ c.requires, le-ltb _ _ c.if-i-n.false)
