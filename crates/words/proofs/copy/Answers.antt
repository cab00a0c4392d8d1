-- By the test of the lengths, and word by word.
use Rattle.std.proofs.Common.{refl, sym, arith, eq-eqb}
use borrow.Author.Tests.{ne_eqb}
use Rattle.words.specs.Copies.{copied, begun-none, begun_more, begun_all}
use Rattle.words.proofs.copy.Goals as goal

pub loop-i-init : goal.loop-i-init
loop-i-init c = begun-none _ _ (sym c.if-from-to.true)

pub loop-i-preserved : goal.loop-i-preserved
loop-i-preserved c = begun_more _ _ _ _ (omega arith) c.loop-i.invariant refl

pub returns-after-loop-i : goal.returns-after-loop-i
unfolding copied
returns-after-loop-i c = rw (eq-eqb _ _ c.if-from-to.true) (begun_all _ _ _ c.loop-i.invariant (omega arith))

pub returns-else-from-to : goal.returns-else-from-to
unfolding copied
returns-else-from-to c = rw (ne_eqb _ _ c.if-from-to.false)
