-- The slot that is given gets the region; or none is free.
use Rattle.std.specs.Prelude.{Err}
use Rattle.std.proofs.Common.{refl, sym, ap, ◌∙◌}
use Rattle.answers.specs.Then.{passed, or-some, or-none}
use Rattle.segment.specs.Regions.{new_region}
use Rattle.segment.proofs.regions.new_region.Goals as goal

pub returns : goal.returns
unfolding new_region
returns c = rw (← c.allocate.ensures.value, or-some _ _ _ (sym c.ok_or.ensures.value ∙ c.in_ok-h.was)) record { value = refl; left = rw c.allocate.ensures.left.seen at c.store.ensures }

pub returns-in_err-h : goal.returns-in_err-h
unfolding new_region
returns-in_err-h c = let n = or-none _ _ _ (sym c.ok_or.ensures.value ∙ c.in_err-h.was) in rw (← c.allocate.ensures.value, n.0) record { value = passed _ _ c.from_residual.ensures.1 ∙ ap Err n.1; left = c.allocate.ensures.left }
