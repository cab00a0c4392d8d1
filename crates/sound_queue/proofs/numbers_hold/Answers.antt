-- Each number of the range.
use Rattle.std.proofs.Common.{◌-◌, ℕ, ltb, ◌∙◌, refl, rules}
use Rattle.std.proofs.lemmas.Iterator.{YieldsList-from_range}
use Rattle.std.proofs.lemmas.Iterator.Search.{all_from_yields_List}
use Rattle.base.specs.Tests.{both}
use Rattle.base.specs.Ranges.{all-range}
use Rattle.tables.specs.View.{view}
use Rattle.sound_updates.specs.Updates.{update_fits, marks_fit}
use Rattle.sound_queue.specs.Ring.{numbered, mark_numbered, numbers_hold}
use Rattle.sound_queue.proofs.numbers_hold.Goals as goal

pub returns : goal.returns
unfolding numbers_hold
returns c =
    let v = view c.args.t.now in
    let test = λ (j : ℕ). both (update_fits v (numbered v c.args.n c.args.read j) (ltb j c.args.m)) (marks_fit (numbered v c.args.n c.args.read j) (mark_numbered v c.args.n c.args.read j)) in
    all_from_yields_List test _ _ c.all.result c.all.ensures.ran (YieldsList-from_range 0 c.args.n (c.args.n - 0) refl refl) (λ x b q k. search rules)
    ∙ all-range test 0 (c.args.n - 0)
