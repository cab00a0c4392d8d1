-- What is in the run so far and the words from here on are the whole.
use Rattle.std.proofs.Common.{◌≡◌, ap, arith, ◌+◌, ◌-◌, ◌*◌}
use Rattle.readings.specs.declared.Plan.{Plan}
use Rattle.bench.proofs.Listing.{listing_start, listing-end, listing-more, plan-turns, plan-list}
use Rattle.bench.proofs.trackers.list.Goals as goal

pub plan_of-p-requires : goal.plan_of-p-requires
plan_of-p-requires c = c.requires

pub loop-k-init : goal.loop-k-init
loop-k-init c = let e : c.plan_of-p.result.turns - 0 ≡ c.plan_of-p.result.turns = omega arith in rw e (listing_start _ _ _ _)

pub found_at-f-requires : goal.found_at-f-requires
found_at-f-requires c = c.requires

pub put_permission-requires : goal.put_permission-requires
put_permission-requires c = omega (arith, plan-turns _ _ _ c.plan_of-p.ensures)

pub loop-k-preserved : goal.loop-k-preserved
loop-k-preserved c =
    let e : c.plan_of-p.result.turns - c.loop-k.k - 1 ≡ c.plan_of-p.result.turns - (c.loop-k.k + 1) = omega arith in
    let f : 3 * c.loop-k.k + 3 ≡ 3 * (c.loop-k.k + 1) = omega arith in
    rw (c.put_permission.ensures, c.found_at-f.ensures, ← e, ← f) (listing-more _ _ _ _ _ _ _ _ (omega arith) c.loop-k.invariant)

pub returns : goal.returns
returns c = (ap (λ (p : Plan). p.answer) c.plan_of-p.ensures, listing-end _ _ _ _ _ _ _ _ _ (omega arith) c.loop-k.invariant (plan-list _ _ _ c.requires c.plan_of-p.ensures))
