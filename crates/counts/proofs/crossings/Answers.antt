-- Each mark is at most its constant, so that the sum is a word.
use mathlib.Core.Bool.{Bool, true, false}
use Prim.Native.Nat.{ℕ, ◌≤◌}
use native.Mathlib.Omega.{arith}
use Rattle.base.specs.Cases.{pick}
use Rattle.tables.specs.declared.Region.{Region}
use Rattle.counts.specs.Counts.{crosses_b, crossings_of}
use Rattle.counts.proofs.crossings.Goals as goal

most : (b : Bool) (m : ℕ) → pick b m 0 ≤ m
most true m = omega arith
most false m = omega arith

fits : (p q : Region) → crossings_of p q ≤ 31
unfolding crossings_of
fits p q =
    omega
    (arith, most (crosses_b p.ref_count q.ref_count) 1, most (crosses_b p.read_count q.read_count) 2, most (crosses_b p.write_count q.write_count) 4, most (crosses_b p.exec_count q.exec_count) 8, most (crosses_b p.super_count q.super_count) 16)

pub returns : goal.returns
unfolding crossings_of
returns c = rw (c.mark_if-reach.ensures, c.mark_if-read.ensures, c.mark_if-write.ensures, c.mark_if-exec.ensures, c.mark_if-own.ensures)

pub overflow_add-result : goal.overflow_add-result
overflow_add-result c = omega (arith, returns c, fits c.args.p c.args.q)

pub overflow_add-result-2 : goal.overflow_add-result-2
overflow_add-result-2 c = omega (arith, returns c, fits c.args.p c.args.q)

pub overflow_add-result-3 : goal.overflow_add-result-3
overflow_add-result-3 c = omega (arith, returns c, fits c.args.p c.args.q)

pub overflow_add-result-4 : goal.overflow_add-result-4
overflow_add-result-4 c = omega (arith, returns c, fits c.args.p c.args.q)
