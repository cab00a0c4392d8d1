-- The test of the memory; then the holders of the tables are those of the model.
use Rattle.frame.specs.Finish.{each_word}
use Rattle.frame.specs.Law.{admitted-sized}
use Rattle.lent_readings.specs.Readings.{holders-returns, holders-refused}
use Rattle.lent_readings.proofs.holders.Goals as goal

pub holders-requires : goal.holders-requires
holders-requires c = admitted-sized _ c.args.w.now _ c.admits.ensures.0 c.if-admits.true

pub returns-then-admits : goal.returns-then-admits
returns-then-admits c = holders-returns _ _ _ _ _ c.admits.ensures.0 _ c.admits.ensures.1 (each_word c.args.t.now (λ i. c.shared_slice_known-1.given i)) c.if-admits.true _ _ c.holders.ensures.value c.holders.ensures.run_after

pub returns : goal.returns
returns c = holders-refused _ _ _ _ _ c.admits.ensures.0 _ c.admits.ensures.1 c.if-admits.false _ c.from.ensures
