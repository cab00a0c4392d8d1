-- The most of the records' reaches, or 0 of none.
use Rattle.std.proofs.Common.{ℕ, ◌+◌, ◌∙◌, max, rules}
use Rattle.std.proofs.lemmas.Iterator.Consumers.{YieldsList-from_first, fold_from_yields_List}
use Rattle.base.specs.Cases.{pick}
use Rattle.tables.specs.declared.Region.{Region}
use Rattle.tables.specs.View.{view}
use Rattle.readings.specs.declared.Records.{Records}
use Rattle.readings.specs.Readings.{records_from, meets}
use Rattle.readings.proofs.Reading.{reach_folded}
use Rattle.readings.proofs.largest_reach.Goals as goal

pub returns : goal.returns
returns c =
    let larger = λ (most : ℕ) (q : Region). max most (pick (meets c.args.start (c.args.last + 1) q) q.ref_count 0) in
    let walk = YieldsList-from_first (λ (q : Region). q) (λ (r : Records). records_from r.left (view r.t.now) r.at) _ c.of.ensures in
    fold_from_yields_List _ larger _ _ c.fold.ensures.ran walk (λ a x b q k. search rules) ∙ reach_folded _ _ _
