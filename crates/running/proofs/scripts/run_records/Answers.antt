-- The calls so far, and those of the bytes that are left, are the script's. Each record takes four bytes at least, so that the bytes left fall.
use Prim.Native.Nat.{◌-◌}
use mathlib.Core.Path.{refl, ap, ◌∙◌}
use Rattle.std.proofs.Common.{Ok}
use lib.ListN.{length, length-drop}
use native.Mathlib.Omega.{arith}
use Rattle.script_progress.specs.declared.Place.{Place}
use Rattle.running.specs.Outcomes.{taken-size, was-run}
use Rattle.running.specs.Steps.{part-rest, half-start, half-ended, half-left, half-behind}
use borrow.Author.Rules.{rules}
use Rattle.running.proofs.scripts.run_records.Goals as goal
use Rattle.running.proofs.scripts.run_records.Goals.{in_default-via-in-Ok+in_default, in_default-via-in_default}

pub loop-p-init : goal.loop-p-init
loop-p-init c = (half-start _ _ _, refl, refl)

pub returns-in_default : goal.returns-in_default
returns-in_default c = half-left _ _ _ _ _ _ _ c.loop-p.invariant.0 _ (part-rest c.args.b.now c.loop-p.p.at) _ _ c.loop-p-test.true _
    (λ y e. elim c.in_default.branch [ in_default-via-in-Ok+in_default w ↦ cc | in_default-via-in_default w ↦ cc ]) _ c.bad_record.ensures c.take.ensures

pub behind-p-requires : goal.behind-p-requires
behind-p-requires c = (omega (arith, c.loop-p.invariant.0.inside, (taken-size _ _ _ _ _ _ _ (c.in-Ok-Some.is ∙ ap Ok c.in-Ok-Some.field-0-is) c.take.ensures).1, ap length (part-rest c.args.b.now c.loop-p.p.at), length-drop c.loop-p.p.at c.args.b.now), omega (arith, c.loop-p.invariant.0.few, c.loop-p-test.true))

pub loop-p-smaller : goal.loop-p-smaller
loop-p-smaller c = omega (arith, c.loop-p-test.true, (taken-size _ _ _ _ _ _ _ (c.in-Ok-Some.is ∙ ap Ok c.in-Ok-Some.field-0-is) c.take.ensures).0, ap (λ (q : Place). q.at) c.behind-p.ensures)

pub loop-p-preserved : goal.loop-p-preserved
loop-p-preserved c = (half-behind _ _ _ _ _ _ _ c.loop-p.invariant.0 _ (part-rest c.args.b.now c.loop-p.p.at) _ _ (λ i. (c.shared_slice_known-1.given i).fits) _ (was-run _ _ _ _ _ _ c.take.ensures _ (c.in-Ok-Some.is ∙ ap Ok c.in-Ok-Some.field-0-is)) _ c.behind-p.ensures, search rules, search rules)

pub returns : goal.returns
returns c = half-ended _ _ _ _ _ _ _ c.loop-p.invariant.0 c.loop-p-test.false
