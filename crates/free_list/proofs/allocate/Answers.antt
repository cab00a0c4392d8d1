-- The words that are read and stored are the definition's; a link at the head leaves room in the count.
use Prim.Native.Nat.{◌-◌}
use Rattle.free_list.specs.Steps.{count_room, allocate-some, allocate-none}
use Rattle.arena.specs.Words.{links-many}
use Rattle.tables.specs.View.{arena_of}
use borrow.Author.Rules.{rules}
use native.Mathlib.Omega.{arith}
use Rattle.free_list.proofs.allocate.Goals as goal

pub overflow_add-count : goal.overflow_add-count
unfolding arena_of
overflow_add-count c = omega (arith, c.word-count.ensures, count_room (arena_of c.args.n c.args.p.now) (rw (← c.head_link-link.ensures) c.if-link-gt0.true), links-many c.args.n c.args.p.now c.requires)

pub returns-then-link-gt0 : goal.returns-then-link-gt0
unfolding arena_of
returns-then-link-gt0 c = let h = allocate-some _ _ _ _ _ _ _ c.head_link-link.ensures c.if-link-gt0.true c.word-slot.ensures c.word-count.ensures c.generation-generation.ensures c.set_link.ensures c.set_top.ensures in record { value = h.0; p_after = h.1 }

pub returns : goal.returns
returns c = let h = allocate-none _ _ c.head_link-link.ensures c.if-link-gt0.false in record { value = h.0; p_after = h.1 }
