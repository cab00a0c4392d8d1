-- Both tests; then the plan for a live domain, or none.
use Rattle.frame.specs.Finish.{each_word}
use Rattle.lent_readings.specs.Lookup.{read-sized}
use Rattle.lent_readings.specs.Permissions.{plans-live, plans-refused}
use Rattle.lent_readings.proofs.listing_of.Goals as goal

-- src/lib.rt:84:17
pub plan_of-p-requires : goal.plan_of-p-requires
plan_of-p-requires c = read-sized _ c.args.w.now _ _ _ c.domain_read.ensures.0 _ c.in-Ok.is

-- src/lib.rt:79:1
pub returns-in-Ok : goal.returns-in-Ok
returns-in-Ok c = plans-live _ _ (each_word c.args.t.now (λ i. c.shared_slice_known-1.given i)) _ _ _ c.domain_read.ensures.0 _ c.domain_read.ensures.1 _ _ c.in-Ok.is _ c.plan_of-p.ensures

-- src/lib.rt:79:1
pub returns-in-Err : goal.returns-in-Err
returns-in-Err c = plans-refused _ _ (each_word c.args.t.now (λ i. c.shared_slice_known-1.given i)) _ _ _ c.domain_read.ensures.0 _ c.domain_read.ensures.1 _ _ c.in-Err.is _ c.from-reply.ensures
