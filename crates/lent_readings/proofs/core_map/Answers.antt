-- Both tests; then what is read of a live domain, or the refusal.
use mathlib.Core.Path.{ap}
use Rattle.tables.specs.declared.DomainHead.{DomainHead}
use Rattle.frame.specs.Finish.{each_word}
use Rattle.lent_readings.specs.Lookup.{read-sized}
use Rattle.lent_readings.specs.Readings.{cores-returns, cores-refused}
use Rattle.lent_readings.proofs.core_map.Goals as goal

pub load-x-requires : goal.load-x-requires
load-x-requires c = read-sized _ c.args.w.now _ _ _ c.domain_read.ensures.0 _ c.in-Ok.is

pub returns-in-Ok : goal.returns-in-Ok
returns-in-Ok c = cores-returns _ _ (each_word c.args.t.now (λ i. c.shared_slice_known-1.given i)) _ _ _ c.domain_read.ensures.0 _ c.domain_read.ensures.1 _ _ c.in-Ok.is (ap (λ (x : DomainHead). x.cores) c.load-x.ensures)

pub returns-in-Err : goal.returns-in-Err
returns-in-Err c = cores-refused _ _ (each_word c.args.t.now (λ i. c.shared_slice_known-1.given i)) _ _ _ c.domain_read.ensures.0 _ c.domain_read.ensures.1 _ c.in-Err.is _ c.from.ensures
