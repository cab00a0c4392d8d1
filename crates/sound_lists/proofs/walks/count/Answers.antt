-- The slots before i are counted, each by whether it may be met.
use Rattle.std.proofs.Common.{◌≡◌, ◌∙◌, ap, refl, arith, rules}
use Rattle.tables.specs.View.{view}
use Rattle.list_links.specs.declared.Step.{Step}
use Rattle.list_links.specs.Stacks.{may_meet}
use Rattle.list_links.specs.Walk.{mark}
use Rattle.list_links.specs.Reads.{step_is}
use Rattle.sound_lists.specs.Counting.{tally, mark-most, tally-most, tally-next}
use Rattle.sound_lists.proofs.walks.count.Goals as goal

pub loop-i-init : goal.loop-i-init
loop-i-init c = refl

pub overflow_add-k : goal.overflow_add-k
overflow_add-k c =
    let m : c.from-k.result ≡ mark c.step_at.result.may = search rules in
    omega (arith, m, mark-most c.step_at.result.may, c.loop-i.invariant, tally-most (may_meet (view c.args.t.now) c.args.s) c.loop-i.i)

pub loop-i-preserved : goal.loop-i-preserved
loop-i-preserved c =
    let m : c.from-k.result ≡ mark c.step_at.result.may = search rules in
    tally-next (may_meet (view c.args.t.now) c.args.s) c.loop-i.i c.loop-i.k c.from-k.result c.loop-i.invariant
    (m ∙ ap (λ (x : Step). mark x.may) (step_is (view c.args.t.now) c.args.s _ _ _ c.loop-i.i _ c.words_of-p.ensures c.rows_of-records.ensures c.slots_of-n.ensures c.step_at.ensures))

pub returns : goal.returns
returns c = c.loop-i.invariant ∙ ap (tally (may_meet (view c.args.t.now) c.args.s)) (omega (arith, c.slots_of-n.ensures))
