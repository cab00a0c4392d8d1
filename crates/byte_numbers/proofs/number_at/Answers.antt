-- A byte more stands in front of those that were read; each is below 256, so that eight fit a word.
use Rattle.std.proofs.Common.{◌≡◌, ◌+◌, ◌-◌, arith}
use Rattle.std.proofs.Math.Nat.{pow-le-pow_right}
use Rattle.byte_numbers.specs.Numbers.{number_more, number_fits}
use Rattle.byte_numbers.proofs.number_at.Goals as goal

pub overflow_mul-n : goal.overflow_mul-n
overflow_mul-n g c =
    let m = c.args.i + g.row.N - c.loop-k.k in
    omega (arith, c.loop-k.invariant.1, number_fits c.args.b.now (λ j. (c.type_inv.b j).fits) m c.loop-k.k, pow-le-pow_right {n = 256} (omega arith) {i = m} {j = 7} (omega (arith, c.requires.few)))

pub overflow_add-n : goal.overflow_add-n
overflow_add-n g c =
    let m = c.args.i + g.row.N - c.loop-k.k in
    omega (arith, c.loop-k.invariant.1, number_fits c.args.b.now (λ j. (c.type_inv.b j).fits) m c.loop-k.k, pow-le-pow_right {n = 256} (omega arith) {i = m} {j = 7} (omega (arith, c.requires.few)))

pub loop-k-preserved : goal.loop-k-preserved
loop-k-preserved g c =
    (omega arith, number_more c.args.b.now (c.args.i + g.row.N) c.loop-k.k c.loop-k.n c.byte.result (omega arith) c.loop-k.auto.k c.byte.ensures.0 c.loop-k.invariant.1)

pub returns : goal.returns
returns g c =
    let e : c.loop-k.k ≡ c.args.i = omega (arith, c.loop-k.invariant.0) in
    let f : c.args.i + g.row.N - c.args.i ≡ g.row.N = omega arith in
    let h = rw (e, f) at c.loop-k.invariant.1 in
    record { value = h; upper_bound = rw h (number_fits c.args.b.now (λ j. (c.type_inv.b j).fits) g.row.N c.args.i) }
