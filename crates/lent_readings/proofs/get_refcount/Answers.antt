-- Both tests; then what is read of a live domain, or the refusal.
use Rattle.frame.specs.Finish.{each_word}
use Rattle.lent_readings.specs.Lookup.{read-sized}
use Rattle.lent_readings.specs.Readings.{refcount-returns, refcount-refused}
use Rattle.lent_readings.proofs.get_refcount.Goals as goal

pub get_refcount-requires : goal.get_refcount-requires
get_refcount-requires c = read-sized _ c.args.w.now _ _ _ c.domain_read.ensures.0 _ c.in-Ok.is

pub returns-in-Ok : goal.returns-in-Ok
returns-in-Ok c = refcount-returns _ _ (each_word c.args.t.now (λ i. c.shared_slice_known-1.given i)) _ _ _ c.domain_read.ensures.0 _ c.domain_read.ensures.1 _ _ _ _ c.in-Ok.is c.get_refcount.ensures

pub returns-in-Err : goal.returns-in-Err
returns-in-Err c = refcount-refused _ _ (each_word c.args.t.now (λ i. c.shared_slice_known-1.given i)) _ _ _ c.domain_read.ensures.0 _ c.domain_read.ensures.1 _ _ _ c.in-Err.is _ c.from.ensures
