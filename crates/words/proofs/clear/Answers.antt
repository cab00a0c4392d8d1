-- Word by word.
use Rattle.std.proofs.Common.{ℕ, length, ◌<◌, sym, arith}
use Rattle.std.proofs.lemmas.List.{length-replicate, get_or-replicate}
use Rattle.words.specs.Copies.{begun-none, begun_more, begun_all}
use Rattle.words.proofs.clear.Goals as goal

pub loop-i-init : goal.loop-i-init
loop-i-init c = begun-none _ _ (sym (length-replicate _ 0))

pub offset_bounds-t-i : goal.offset_bounds-t-i
offset_bounds-t-i c = omega (arith, c.loop-i.invariant.long, length-replicate {A = ℕ} (length c.args.t.now) 0)

pub bounds-t-i : goal.bounds-t-i
bounds-t-i c = omega (arith, c.loop-i.invariant.long, length-replicate {A = ℕ} (length c.args.t.now) 0)

pub loop-i-preserved : goal.loop-i-preserved
loop-i-preserved c =
    let h : c.loop-i.i < length c.args.t.now = omega arith in
    begun_more _ _ _ 0 (rw length-replicate h) c.loop-i.invariant (sym (get_or-replicate _ _ 0 0 h))

pub returns : goal.returns
returns c = begun_all _ _ _ c.loop-i.invariant (omega (arith, length-replicate {A = ℕ} (length c.args.t.now) 0))
