-- The run so far and the lines of the records that are left are the whole.
use Rattle.std.proofs.Common.{◌≡◌, ◌+◌, ◌-◌, sym, ◌∙◌, arith}
use Rattle.listing.proofs.Filling.{filling-end, filling-more, free-none, used_start, none_filled}
use Rattle.readings.proofs.Reading.{records-end, records-none, records-more}
use Rattle.sizes.specs.Sizes.{sizes_of}
use Rattle.listing.proofs.fill_lines.Goals as goal

pub returns-then-is_free : goal.returns-then-is_free
returns-then-is_free c = let h = none_filled _ _ _ (free-none _ _ (sym c.is_free.ensures ∙ c.if-is_free.true)) in record { value = h.0; run_after = h.1 }

pub returns-then-k-eq0 : goal.returns-then-k-eq0
returns-then-k-eq0 c = rw (← (used_start c.args.t.now c.args.d _ _ (sym c.is_free.ensures ∙ c.if-is_free.false) c.size-records.ensures c.first-k.ensures)) (let h = filling-end _ _ _ _ _ _ (records-none _ _ _ c.if-k-eq0.true) c.loop-n.invariant in record { value = h.0; run_after = h.1 })

pub overflow_mul-n : goal.overflow_mul-n
unfolding sizes_of
overflow_mul-n c = omega (arith, c.size-records.ensures, c.requires.limits.records-high)

pub put_line-requires : goal.put_line-requires
unfolding sizes_of
put_line-requires c = omega (arith, c.size-records.ensures, c.requires.limits.records-high)

pub loop-n-preserved : goal.loop-n-preserved
loop-n-preserved c =
    let e : c.size-records.result - c.loop-n.n - 1 ≡ c.size-records.result - (c.loop-n.n + 1) = omega arith in
    rw (c.put_line.ensures, c.load-q.ensures, c.slot_to.ensures, ← e) (filling-more _ _ _ _ _ _ _ _ (records-more _ _ _ (omega arith) c.if-k-eq0.false) c.loop-n.invariant)

pub returns : goal.returns
returns c =
    let e : c.loop-n.n ≡ c.size-records.result = omega arith in
    rw (← (used_start c.args.t.now c.args.d _ _ (sym c.is_free.ensures ∙ c.if-is_free.false) c.size-records.ensures c.first-k.ensures)) (let h = filling-end _ _ _ _ _ _ (records-end _ _ _ (omega arith)) c.loop-n.invariant in record { value = sym e ∙ h.0; run_after = h.1 })
