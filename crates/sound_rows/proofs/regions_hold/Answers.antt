-- Each row by its number, beside the link of the pool.
use Rattle.std.proofs.Common.{ℕ, refl, arith, rules, get_or}
use Rattle.std.proofs.lemmas.Iterator.{YieldsList-from_range}
use Rattle.std.proofs.lemmas.Iterator.Search.{all_from_yields_List}
use Rattle.base.specs.Ranges.{all-in}
use Rattle.tables.specs.View.{view}
use Rattle.sound_rows.specs.Hold.{rows_hold}
use Rattle.sound_rows.specs.Rows.{region_fits, region-row}
use Rattle.sound_rows.proofs.regions_hold.Goals as goal

pub returns : goal.returns
unfolding rows_hold region_fits
returns c =
    let test = λ (i : ℕ). region_fits (get_or c.links_of-links.result.now i 0) c.rows_of-rows.result.now i in
    all-in test _ c.slots_of-n.result _ c.all.result
    (all_from_yields_List test _ _ c.all.result c.all.ensures.ran (YieldsList-from_range 0 c.slots_of-n.result c.slots_of-n.result refl (omega arith)) (λ x b q k. search rules))
    c.slots_of-n.ensures
    (λ i h. region-row (view c.args.t.now) _ _ i _ c.links_of-links.ensures c.rows_of-rows.ensures h refl)
