-- A slot is taken for the right half, and the left half is linked to it; or none is free.
use Rattle.std.specs.Prelude.{Err}
use Rattle.answers.specs.Then.{passed, or-some, or-none}
use Rattle.tracker_records.specs.Links.{split}
use Rattle.std.proofs.Common.{refl, sym, ap, ◌∙◌}
use Rattle.tracker_records.proofs.links.split_region_at.Goals as goal

pub returns : goal.returns
unfolding split
returns c = rw (← c.allocate.ensures.value, or-some _ _ _ (sym c.ok_or.ensures.value ∙ c.in_ok-h.was), ← c.allocate.ensures.left.seen, ← c.load-q.ensures, ← c.store.ensures.seen, ← c.link_to-link.ensures) record { value = refl; left = rw c.bounded.ensures at c.store-2.ensures }

pub returns-in_err-h : goal.returns-in_err-h
unfolding split
returns-in_err-h c = let n = or-none _ _ _ (sym c.ok_or.ensures.value ∙ c.in_err-h.was) in rw (← c.allocate.ensures.value, n.0) record { value = passed _ _ c.from_residual.ensures.1 ∙ ap Err n.1; left = c.allocate.ensures.left }
