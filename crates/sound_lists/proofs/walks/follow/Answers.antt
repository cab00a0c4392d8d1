-- What is left to walk, with the marks so far, finds what the whole walk finds.
use Rattle.std.proofs.Common.{◌≡◌, ◌-◌, refl, eqb, subst, ◌∙◌, arith}
use borrow.Author.Tests.{not-true, not-false}
use Rattle.tables.specs.View.{view}
use Rattle.list_links.specs.Reads.{slots-inside, step_is}
use Rattle.sound_lists.specs.Loops.{going_start, follow-go, follow-stop, follow-end, Marked}
use Rattle.sound_lists.proofs.walks.follow.Goals as goal
use Rattle.sound_lists.proofs.walks.follow.Goals.{then-not-x-via-then-not-x, then-not-x-via-else-not-x+then-is_marked}

pub loop-links-init : goal.loop-links-init
loop-links-init c = (refl, going_start _ _ _ _ _ _)

pub returns-then-link-eq0 : goal.returns-then-link-eq0
returns-then-link-eq0 c = follow-end (view c.args.t.now) _ _ _ _ _ _ _ _ c.loop-links.invariant.1 (λ h k. omega arith)

pub returns-then-not-x : goal.returns-then-not-x
returns-then-not-x c =
    let ex = step_is (view c.args.t.now) c.args.s _ _ _ (c.loop-links.link - 1) _ c.words_of-p.ensures c.rows_of-records.ensures c.slots_of-n.ensures c.step_at-x.ensures in
    elim c.then-not-x.branch [
      | then-not-x-via-then-not-x w ↦ follow-stop (view c.args.t.now) _ _ _ _ _ _ _ _ c.loop-links.invariant.1 (omega arith) (omega arith) _ _ ex refl (rw (not-true _ w.if-not-x.true) refl)
      | then-not-x-via-else-not-x+then-is_marked w ↦ follow-stop (view c.args.t.now) _ _ _ _ _ _ _ _ c.loop-links.invariant.1 (omega arith) (omega arith) _ _ ex w.is_marked.ensures (rw (not-false _ w.if-not-x.false, w.if-is_marked.true) refl)
    ]

pub loop-links-preserved : goal.loop-links-preserved
loop-links-preserved c = (
  c.mark.auto.w ∙ c.loop-links.invariant.0,
  follow-go (view c.args.t.now) _ _ _ _ _ _ _ _ c.loop-links.invariant.1 (omega arith) (omega arith) _ _
      (step_is (view c.args.t.now) c.args.s _ _ _ (c.loop-links.link - 1) _ c.words_of-p.ensures c.rows_of-records.ensures c.slots_of-n.ensures c.step_at-x.ensures)
      c.is_marked.ensures (not-false _ c.if-not-x.false) c.if-is_marked.false (omega (arith, slots-inside c.args.t.now c.args.s c.requires.sized, c.requires.w_len, c.loop-links.invariant.0)) _ c.mark.ensures,
)

pub returns : goal.returns
returns c =
    let e : c.loop-links.links ≡ c.args.most = omega arith in
    let m = follow-end (view c.args.t.now) _ _ _ _ _ _ _ _ c.loop-links.invariant.1 (λ h k. omega arith) in
    subst (λ x. Marked (view c.args.t.now) c.args.s c.args.e c.args.most c.args.l c.args.w.now (record { ended = eqb c.loop-links.link c.args.e; links = x }) c.loop-links.w) e m
