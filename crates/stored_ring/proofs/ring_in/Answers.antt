-- The first i places are read, each with its marks.
use Rattle.std.proofs.Common.{rules, ◌≡◌, ◌+◌, ◌-◌, ◌*◌, sym, ap, ◌∙◌, arith}
use Rattle.std.proofs.Math.ListN.{replicate}
use Rattle.words.specs.Runs.{part}
use Rattle.ring.specs.Ring.{cap, no_entry}
use Rattle.stored_ring.specs.Stored.{read_none, read_more}
use Rattle.stored_ring.proofs.ring_in.Goals as goal

pub loop-i-init : goal.loop-i-init
loop-i-init c = let none : c.default-places.result ≡ no_entry = search rules in ap (replicate cap) none ∙ sym (read_none c.args.p.now c.args.m.now)

pub loop-i-preserved : goal.loop-i-preserved
unfolding part
loop-i-preserved c =
    let i = c.loop-i.i in
    let e : i * 4 + 4 - i * 4 ≡ 4 = omega arith in
    rw (c.loop-i.invariant, c.of_words.ensures, e) (read_more c.args.p.now c.args.m.now i (omega arith))

pub returns : goal.returns
returns c = let e : c.loop-i.i ≡ c.args.n = omega arith in rw (c.loop-i.invariant, e)
