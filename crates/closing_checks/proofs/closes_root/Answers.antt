-- The test of each row, as far as the first that passes.
use Rattle.std.proofs.Common.{◌-◌, ◌∙◌, refl, rules, tests}
use Rattle.std.proofs.lemmas.Iterator.{YieldsList-from_range}
use Rattle.std.proofs.lemmas.Iterator.Search.{any_from_yields_List}
use Rattle.tables.specs.View.{view}
use Rattle.tables.specs.Header.{regions-seen}
use Rattle.closing_checks.specs.Closes.{root_to_close_b, closes_root_b}
use Rattle.closing_checks.specs.Steps.{some-start}
use Rattle.closing_checks.proofs.Any.{any_some}
use Rattle.closing_checks.proofs.closes_root.Goals as goal

pub returns : goal.returns
unfolding closes_root_b
returns c =
    let n = c.size.result in
    let test = root_to_close_b (view c.args.t.now) c.args.d in
    any_from_yields_List test _ _ c.any.result c.any.ensures.ran (YieldsList-from_range 0 n (n - 0) refl refl) (λ x b q k. search (rules, tests))
    ∙ any_some test 0 (n - 0) ∙ some-start test n _ (regions-seen _ _ c.size.ensures)
