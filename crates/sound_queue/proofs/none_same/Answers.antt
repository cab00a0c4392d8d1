-- Where u is of no domain there is none of its; else each number of the range.
use Rattle.std.proofs.Common.{◌-◌, ℕ, not, ◌∙◌, refl, rules, ne_eqb}
use Rattle.std.proofs.lemmas.Iterator.{YieldsList-from_range}
use Rattle.std.proofs.lemmas.Iterator.Search.{all_from_yields_List}
use Rattle.base.specs.Ranges.{all-range}
use Rattle.tables.specs.View.{view}
use Rattle.sound_updates.specs.Updates.{same_domain}
use Rattle.sound_queue.specs.Ring.{numbered, none_same}
use Rattle.sound_queue.specs.Steps.{of-none}
use Rattle.sound_queue.proofs.none_same.Goals as goal

pub returns-then-u-ne-PERMISSION : goal.returns-then-u-ne-PERMISSION
returns-then-u-ne-PERMISSION c = rw (ne_eqb _ _ c.if-u-ne-PERMISSION.true) (of-none (view c.args.t.now) c.args.n c.args.read c.args.m c.args.u c.args.from c.if-u-ne-PERMISSION.true)

pub returns-else-u-ne-PERMISSION : goal.returns-else-u-ne-PERMISSION
unfolding none_same
returns-else-u-ne-PERMISSION c =
    let test = λ (i : ℕ). not (same_domain c.args.u (numbered (view c.args.t.now) c.args.n c.args.read i)) in
    all_from_yields_List test _ _ c.all.result c.all.ensures.ran (YieldsList-from_range c.args.from c.args.m (c.args.m - c.args.from) refl refl) (λ x b q k. search rules)
    ∙ all-range test c.args.from (c.args.m - c.args.from)
