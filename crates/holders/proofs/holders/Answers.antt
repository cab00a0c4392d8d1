-- The run and the number so far and the holders from here on are the whole.
use Rattle.std.proofs.Common.{◌≡◌, ◌+◌, ◌-◌, refl, sym, ◌∙◌, arith, length-set}
use Rattle.sizes.specs.Sizes.{sizes_of}
use Rattle.holders.proofs.Filling.{filling-start, filling-end, filling-one, filling-other, holders-start}
use Rattle.holders.proofs.holders.Goals as goal
use Rattle.holders.proofs.holders.Goals.{then-is_holder, else-is_holder}

pub loop-d-init : goal.loop-d-init
loop-d-init c =
    let all : c.size-domains.result - 0 ≡ c.size-domains.result = omega arith in
    record { counted = omega arith; length_kept = refl; filling = rw all (filling-start _ _ _ _) }

pub overflow_add-n : goal.overflow_add-n
unfolding sizes_of
overflow_add-n c = omega (arith, c.size-domains.ensures, c.requires.limits.domains-high)

pub loop-d-preserved : goal.loop-d-preserved
loop-d-preserved c =
    let fewer : c.size-domains.result - (c.loop-d.d + 1) ≡ c.size-domains.result - c.loop-d.d - 1 = omega arith in
    let i = c.loop-d.invariant in
    elim c.if-is_holder.branch [
      | then-is_holder w ↦ rw (w.run-is, w.n-is, w.put.ensures, fewer) (record { counted = omega arith; length_kept = simp length-set i.length_kept; filling = filling-one _ _ _ _ _ _ _ _ (omega arith) i.filling (sym c.is_holder.ensures ∙ w.if-is_holder.true) })
      | else-is_holder w ↦ rw (w.run-is, w.n-is, fewer) (record { counted = omega arith; length_kept = i.length_kept; filling = filling-other _ _ _ _ _ _ _ _ (omega arith) i.filling (sym c.is_holder.ensures ∙ w.if-is_holder.false) })
    ]

pub returns : goal.returns
returns c =
    let h = filling-end _ _ _ _ _ _ _ _ (omega arith) c.loop-d.invariant.filling in
    rw (← (holders-start c.args.t.now c.args.a c.size-domains.result c.size-domains.ensures)) (record { value = h.0; run_after = h.1 })
