-- The slot that is given gets the head, the list and the interface; or none is free.
use Rattle.std.specs.Prelude.{Err}
use Rattle.std.proofs.Common.{refl, sym, ap, ◌∙◌}
use Rattle.answers.specs.Then.{passed, or-some, or-none}
use Rattle.new_domain.specs.Opened.{new_domain}
use Rattle.tables.specs.Header.{slots_read}
use Rattle.new_domain.proofs.new_domain.Goals as goal

pub returns : goal.returns
unfolding new_domain
returns c = rw (← c.allocate.ensures.value, or-some _ _ _ (sym c.ok_or.ensures.value ∙ c.in_ok-h.was)) record { value = refl; left = rw (c.store_list.ensures.seen, c.store.ensures.seen, c.allocate.ensures.left.seen, c.fresh_list.ensures, c.size-n.ensures, slots_read) at c.store-2.ensures }

pub returns-in_err-h : goal.returns-in_err-h
unfolding new_domain
returns-in_err-h c = let n = or-none _ _ _ (sym c.ok_or.ensures.value ∙ c.in_err-h.was) in rw (← c.allocate.ensures.value, n.0) record { value = passed _ _ c.from_residual.ensures.1 ∙ ap Err n.1; left = c.allocate.ensures.left }
