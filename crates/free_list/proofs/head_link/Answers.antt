-- The link at the head, where the count leaves room.
use Prim.Native.Nat.{◌-◌}
use Rattle.free_list.specs.Steps.{head-link-is, no-head-link}
use Rattle.arena.specs.Words.{links-many}
use Rattle.tables.specs.View.{arena_of}
use borrow.Author.Rules.{rules}
use Rattle.free_list.proofs.head_link.Goals as goal

pub returns-then-size-n : goal.returns-then-size-n
unfolding arena_of
returns-then-size-n c = head-link-is _ _ _ _ _ (links-many _ _ c.requires) c.size-then-size-n.ensures c.size.ensures c.if-size-n.true c.link.ensures

pub returns-else-size-n : goal.returns-else-size-n
unfolding arena_of
returns-else-size-n c = no-head-link _ _ _ (links-many _ _ c.requires) c.size.ensures c.if-size-n.false
