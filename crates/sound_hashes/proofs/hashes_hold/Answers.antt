-- Each row by its number.
use Rattle.std.proofs.Common.{◌∙◌, refl, arith, rules}
use Rattle.std.proofs.lemmas.Iterator.{YieldsList-from_range}
use Rattle.std.proofs.lemmas.Iterator.Search.{all_from_yields_List}
use Rattle.base.specs.Ranges.{all-range}
use Rattle.sections.specs.Rows.{hash_in}
use Rattle.sound_hashes.specs.Hashes.{row_holds, lent-hold}
use Rattle.sound_hashes.proofs.hashes_hold.Goals as goal

pub returns : goal.returns
returns c =
    let test = row_holds c.links_of-links.result.now (hash_in c.rows_of-p.result.now) in
    all_from_yields_List test _ _ c.all.result c.all.ensures.ran (YieldsList-from_range 0 c.size-n.result c.size-n.result refl (omega arith)) (λ x b q k. search rules)
    ∙ all-range test 0 c.size-n.result ∙ lent-hold _ _ _ _ c.links_of-links.ensures c.rows_of-p.ensures c.size-n.ensures
