-- Each test is what its definition says.
use Rattle.arena.specs.Arena.{held_b}
use Rattle.arena.specs.Words.{links-many}
use Rattle.tables.specs.View.{arena_of}
use Rattle.std.proofs.Common.{lt-ltb, le-ltb}
use Rattle.free_list.proofs.is_held.Goals as goal

pub returns-then-count-gt0 : goal.returns-then-count-gt0
unfolding held_b arena_of
returns-then-count-gt0 c = rw (links-many _ _ c.requires, ← c.size-head.ensures, ← c.size-count.ensures, ← c.link-used.ensures, lt-ltb _ _ c.if-i-n.true, lt-ltb _ _ c.if-head-n.true, lt-ltb _ _ c.if-count-gt0.true)

pub returns-else-count-gt0 : goal.returns-else-count-gt0
unfolding held_b arena_of
returns-else-count-gt0 c = rw (links-many _ _ c.requires, ← c.size-head.ensures, ← c.size-count.ensures, lt-ltb _ _ c.if-i-n.true, lt-ltb _ _ c.if-head-n.true, le-ltb _ _ c.if-count-gt0.false)

pub returns-else-head-n : goal.returns-else-head-n
unfolding held_b arena_of
returns-else-head-n c = rw (links-many _ _ c.requires, ← c.size-head.ensures, lt-ltb _ _ c.if-i-n.true, le-ltb _ _ c.if-head-n.false)

pub returns-else-i-n : goal.returns-else-i-n
unfolding held_b arena_of
returns-else-i-n c = rw (links-many _ _ c.requires, le-ltb _ _ c.if-i-n.false)
