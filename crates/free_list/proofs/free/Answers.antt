-- The words that are read and stored are the definition's; a slot in use bounds the head and the count.
use Prim.Native.Nat.{◌-◌}
use Rattle.free_list.specs.Steps.{held-facts, free-done, free-spent, free-not}
use Rattle.arena.specs.Words.{links-many}
use Rattle.tables.specs.View.{arena_of}
use borrow.Author.Rules.{rules}
use native.Mathlib.Omega.{arith}
use Rattle.free_list.proofs.free.Goals as goal

pub overflow_add-head : goal.overflow_add-head
unfolding arena_of
overflow_add-head c = omega (arith, c.word-head.ensures, held-facts _ _ _ c.is_held.ensures c.if-is_held.true, links-many c.args.n c.args.p.now c.requires)

pub overflow_sub-count : goal.overflow_sub-count
unfolding arena_of
overflow_sub-count c = omega (arith, c.word-count.ensures, held-facts _ _ _ c.is_held.ensures c.if-is_held.true)

pub returns-then-generation-lt18446744073709551615 : goal.returns-then-generation-lt18446744073709551615
unfolding arena_of
returns-then-generation-lt18446744073709551615 c = let h = free-done _ _ _ _ _ _ _ _ _ c.is_held.ensures c.if-is_held.true c.generation-generation.ensures c.if-generation-lt18446744073709551615.true c.word-head.ensures c.word-count.ensures c.set_link.ensures c.set_generation.ensures c.set_top.ensures in record { value = h.0; p_after = h.1 }

pub returns-then-is_held : goal.returns-then-is_held
returns-then-is_held c = let h = free-spent _ _ _ _ c.is_held.ensures c.if-is_held.true c.generation-generation.ensures c.if-generation-lt18446744073709551615.false in record { value = h.0; p_after = h.1 }

pub returns : goal.returns
returns c = let h = free-not _ _ _ c.is_held.ensures c.if-is_held.false in record { value = h.0; p_after = h.1 }
