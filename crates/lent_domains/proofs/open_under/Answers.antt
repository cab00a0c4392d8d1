-- The call, then the generation of the new slot.
use mathlib.Core.Option.{some}
use Rattle.lent_domains.specs.Opening.{opened-sized, open-returns}
use borrow.Author.Rules.{rules}
use Rattle.lent_domains.proofs.open_under.Goals as goal

pub opened-requires : goal.opened-requires
opened-requires c = opened-sized _ _ (some _) _ _ c.open_under.ensures.result_value c.open_under.ensures.step_words _ _ _ c.run-r.ensures

pub returns : goal.returns
returns c = open-returns _ _ (some _) _ _ c.open_under.ensures.result_value c.open_under.ensures.step_words _ _ _ c.run-r.ensures _ c.opened.ensures
