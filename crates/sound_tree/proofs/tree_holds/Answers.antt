-- The three tests in turn; clearing leaves the words of w as they were.
use Rattle.std.proofs.Common.{◌∙◌, ap, arith, length-take, rules}
use Rattle.std.proofs.Math.ListN.{replicate}
use Rattle.sound_tree.specs.Whole.{regions-few, regions-fit, children-few, rows-fail, lists-fail, all_tested, marks-inside}
use Rattle.sound_tree.specs.Ways.{all-cleared}
use Rattle.sound_tree.proofs.tree_holds.Goals as goal

pub count_children-requires : goal.count_children-requires
count_children-requires c = regions-few _ _ c.requires.sized c.size-n.ensures

pub returns-in_default-clause-value : goal.returns-in_default-clause-value
returns-in_default-clause-value c = rows-fail _ _ c.requires.sized c.size-n.ensures _ c.rows_of-p.ensures _ c.links_of-links.ensures c.in_default.ensures

pub lists_hold-requires : goal.lists_hold-requires
lists_hold-requires c = (regions-few _ _ c.requires.sized c.size-n.ensures, children-few _ _ c.requires.sized c.size-n.ensures _ c.rows_of-p.ensures _ c.links_of-links.ensures _ c.in-Some.ensures)

pub returns-then-not-lists_hold-clause-value : goal.returns-then-not-lists_hold-clause-value
returns-then-not-lists_hold-clause-value c = lists-fail _ _ c.requires.sized c.size-n.ensures _ c.rows_of-p.ensures _ c.links_of-links.ensures _ c.in-Some.ensures _ c.lists_hold.ensures c.if-not-lists_hold.true

pub slice_bounds-fill-end : goal.slice_bounds-fill-end
slice_bounds-fill-end c = omega (arith, regions-fit _ _ c.requires.sized c.size-n.ensures, c.requires.w_len, c.roots_hold-rooted.auto.w)

pub slice_bounds-fill-end-2 : goal.slice_bounds-fill-end-2
slice_bounds-fill-end-2 c = simp length-take (omega (arith, regions-fit _ _ c.requires.sized c.size-n.ensures, c.requires.w_len, c.roots_hold-rooted.auto.w))

pub returns-clause-value : goal.returns-clause-value
returns-clause-value c = all_tested _ _ c.requires.sized c.size-n.ensures _ c.rows_of-p.ensures _ c.links_of-links.ensures _ c.in-Some.ensures _ c.lists_hold.ensures _ c.requires.w_len c.requires.w_value _ c.if-not-lists_hold.false c.roots_hold-rooted.ensures.value

pub returns-clause-w_unchanged : goal.returns-clause-w_unchanged
returns-clause-w_unchanged c =
    let b = regions-fit _ _ c.requires.sized c.size-n.ensures in
    all-cleared _ _ _ _ (omega (arith, b, c.requires.w_len)) c.requires.w_value
    (marks-inside _ _ c.requires.sized c.size-n.ensures _ c.rows_of-p.ensures _ _ c.roots_hold-rooted.ensures.w_after)
    (c.fill.ensures.after (λ y h. search rules) ∙ ap (λ m. replicate m 0) (simp length-take (omega (arith, b, c.requires.w_len, c.roots_hold-rooted.auto.w))))
