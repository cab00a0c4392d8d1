-- Each number of the range.
use Rattle.std.proofs.Common.{◌-◌, ◌+◌, ℕ, ◌∙◌, refl, rules}
use Rattle.std.proofs.lemmas.Iterator.{YieldsList-from_range}
use Rattle.std.proofs.lemmas.Iterator.Search.{all_from_yields_List}
use Rattle.base.specs.Ranges.{all-range}
use Rattle.tables.specs.View.{view}
use Rattle.sound_queue.specs.Ring.{numbered, none_same, singly}
use Rattle.sound_queue.proofs.is_singly.Goals as goal

pub returns : goal.returns
unfolding singly
returns c =
    let v = view c.args.t.now in
    let test = λ (j : ℕ). none_same v c.args.n c.args.read c.args.m (numbered v c.args.n c.args.read j) (j + 1) in
    all_from_yields_List test _ _ c.all.result c.all.ensures.ran (YieldsList-from_range 0 c.args.m (c.args.m - 0) refl refl) (λ x b q k. search rules)
    ∙ all-range test 0 (c.args.m - 0)
