-- The new tables are copied where the old ones are convertible; both work areas are cleared.
use Rattle.frame.specs.Finish.{each_word}
use Rattle.converting.specs.Converts.{refused-converts, accepted-converts}
use Rattle.converting.proofs.convert.Goals as goal

pub returns-then-converts : goal.returns-then-converts
returns-then-converts c = accepted-converts _ _ _ _ (each_word c.args.old.now (λ i. c.shared_slice_known-1.given i)) _ c.converts.ensures.value _ _ _ _ c.converts.auto.v c.converts.auto.w c.clear.ensures c.clear-then-converts.ensures c.if-converts.true _ c.converts.ensures.v_after _ c.copy.ensures

pub returns : goal.returns
returns c = refused-converts _ _ _ _ (each_word c.args.old.now (λ i. c.shared_slice_known-1.given i)) _ c.converts.ensures.value _ _ _ _ c.converts.auto.v c.converts.auto.w c.clear-2.ensures c.clear-3.ensures c.if-converts.false _ c.from.ensures
