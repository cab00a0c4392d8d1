-- The widths of the sections before, summed.
use Rattle.words.specs.Cuts.{offset}
use native.Mathlib.Omega.{arith}
use Rattle.sizes.proofs.record_pool_at.Goals as goal

pub overflow_add-result-2 : goal.overflow_add-result-2
unfolding offset
overflow_add-result-2 c = omega arith

pub returns : goal.returns
unfolding offset
returns c = omega arith
