-- The widths of the sections before, summed.
use Rattle.words.specs.Cuts.{offset}
use native.Mathlib.Omega.{arith}
use Rattle.sizes.proofs.region_pool_at.Goals as goal

pub returns : goal.returns
unfolding offset
returns c = omega arith
