-- Each count with its sum.
use Prim.Native.Nat.{◌%◌}
use native.Mathlib.Omega.{arith}
use Rattle.model.specs.Fields.{Field}
use Rattle.sweep_cursors.specs.Sums.{raised, ones}
use Rattle.sweep_cursors.proofs.counts.raise.Goals as goal

pub overflow_add-result : goal.overflow_add-result
overflow_add-result c = omega (arith, c.requires Field.Reach, ones _ (c.args.rights % 256) c.counters-k.ensures)

pub overflow_add-result-2 : goal.overflow_add-result-2
overflow_add-result-2 c = omega (arith, c.requires Field.Read, ones _ (c.args.rights % 256) c.counters-k.ensures)

pub overflow_add-result-3 : goal.overflow_add-result-3
overflow_add-result-3 c = omega (arith, c.requires Field.Write, ones _ (c.args.rights % 256) c.counters-k.ensures)

pub overflow_add-result-4 : goal.overflow_add-result-4
overflow_add-result-4 c = omega (arith, c.requires Field.Exec, ones _ (c.args.rights % 256) c.counters-k.ensures)

pub overflow_add-result-5 : goal.overflow_add-result-5
overflow_add-result-5 c = omega (arith, c.requires Field.Super, ones _ (c.args.rights % 256) c.counters-k.ensures)

pub returns : goal.returns
returns c = raised c.args.s c.args.rights _ c.counters-k.ensures
