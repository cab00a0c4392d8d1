-- What is left from domain d on is the whole, and the work area is as it was.
use Rattle.std.proofs.Common.{length, refl, ap, ◌∙◌, arith}
use Rattle.sound_trackers.specs.Turns.{free-holds, domain-is, all_start, all_end, all-goes, all-fails}
use Rattle.sound_trackers.proofs.trackers_hold.Goals as goal
use Rattle.sound_trackers.proofs.trackers_hold.Goals.{then-word-eq0+else-not-domain_holds, else-word-eq0}

pub loop-d-init : goal.loop-d-init
loop-d-init c = record { area = refl; rest = all_start _ _ c.read_sizes-z.ensures }

pub domain_holds-requires : goal.domain_holds-requires
domain_holds-requires c = rw c.loop-d.invariant.area c.requires.w_value

pub returns-then-not-domain_holds : goal.returns-then-not-domain_holds
returns-then-not-domain_holds c = record { value = all-fails _ _ _ (omega arith) (domain-is _ _ _ _ c.links_of-used.ensures c.word.ensures _ _ _ c.loop-d.w _ _ _ _ c.requires.sized c.read_sizes-z.ensures c.links_of-links.ensures c.generations_of-gens.ensures c.rows_of-r.ensures c.slots_of-s.ensures c.rows_of-q.ensures c.load-x.ensures (ap length c.loop-d.invariant.area ∙ c.requires.w_len) c.if-word-eq0.true _ c.domain_holds.ensures.value ∙ c.if-not-domain_holds.true) ∙ c.loop-d.invariant.rest; w_unchanged = c.domain_holds.ensures.w_unchanged ∙ c.loop-d.invariant.area }

pub loop-d-preserved : goal.loop-d-preserved
loop-d-preserved c = record {
  area = elim c.if-word-eq0.branch [ then-word-eq0+else-not-domain_holds w ↦ w.w-is ∙ w.domain_holds.ensures.w_unchanged ∙ c.loop-d.invariant.area | else-word-eq0 w ↦ w.w-is ∙ c.loop-d.invariant.area ];
  rest = all-goes _ _ _ (omega arith) (elim c.if-word-eq0.branch [
    | then-word-eq0+else-not-domain_holds w ↦ domain-is _ _ _ _ c.links_of-used.ensures c.word.ensures _ _ _ c.loop-d.w _ _ _ _ c.requires.sized c.read_sizes-z.ensures c.links_of-links.ensures c.generations_of-gens.ensures c.rows_of-r.ensures w.slots_of-s.ensures c.rows_of-q.ensures w.load-x.ensures (ap length c.loop-d.invariant.area ∙ c.requires.w_len) w.if-word-eq0.true _ w.domain_holds.ensures.value ∙ w.if-not-domain_holds.false
    | else-word-eq0 w ↦ free-holds _ _ _ _ c.links_of-used.ensures c.word.ensures w.if-word-eq0.false
  ]) ∙ c.loop-d.invariant.rest;
}

pub returns : goal.returns
returns c = record { value = all_end _ _ _ (omega arith) ∙ c.loop-d.invariant.rest; w_unchanged = c.loop-d.invariant.area }
