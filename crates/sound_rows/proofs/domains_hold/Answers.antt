-- The domains before d hold, and the work area is as it was.
use mathlib.Core.Path.{refl, ap, ◌∙◌}
use Rattle.base.specs.Tests.{all_from}
use Rattle.tables.specs.View.{view}
use Rattle.sound_rows.specs.Hold.{domain_holds, row_holds, rows_hold}
use Rattle.sound_rows.specs.Passed.{passed_start, passed-go, passed-stop, passed-end}
use Rattle.sound_rows.specs.Answers.{clean-same}
use Rattle.sound_rows.proofs.domains_hold.Goals as goal

pub loop-d-init : goal.loop-d-init
loop-d-init c = (refl, passed_start _ _)

pub domain_holds-requires : goal.domain_holds-requires
domain_holds-requires c = record { sized = c.requires.sized; clean = clean-same _ _ _ c.loop-d.invariant.0 c.requires.clean }

pub returns-then-not-domain_holds : goal.returns-then-not-domain_holds
unfolding rows_hold row_holds
returns-then-not-domain_holds c = record { value = passed-stop _ _ c.loop-d.d c.loop-d.invariant.1 c.domain_holds.result c.loop-d-test.true c.domain_holds.ensures.value (c.if-not-domain_holds.true) ∙ ap (all_from (domain_holds (view c.args.t.now)) 0) c.slots_of-n.ensures; w_unchanged = c.domain_holds.ensures.w_unchanged ∙ c.loop-d.invariant.0 }

pub loop-d-preserved : goal.loop-d-preserved
loop-d-preserved c = (c.domain_holds.ensures.w_unchanged ∙ c.loop-d.invariant.0, passed-go _ _ c.loop-d.d c.loop-d.invariant.1 c.domain_holds.result c.loop-d-test.true c.domain_holds.ensures.value (c.if-not-domain_holds.false))

pub returns : goal.returns
unfolding rows_hold row_holds
returns c = record { value = passed-end _ _ c.loop-d.d c.loop-d.invariant.1 c.loop-d-test.false ∙ ap (all_from (domain_holds (view c.args.t.now)) 0) c.slots_of-n.ensures; w_unchanged = c.loop-d.invariant.0 }
