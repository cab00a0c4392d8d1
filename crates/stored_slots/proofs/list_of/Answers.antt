-- The first i slots are read.
use Rattle.std.proofs.Common.{◌≡◌, ◌+◌, ◌-◌, ◌*◌, sym, ap, ◌∙◌, arith, rules}
use Rattle.std.proofs.Math.ListN.{replicate}
use Rattle.words.specs.Runs.{part}
use Rattle.sizes.specs.Limits.{most_slots}
use Rattle.tables.specs.Tables.{no_slot}
use Rattle.stored_slots.specs.Rows.{read_none, read_more, read_all}
use Rattle.stored_slots.proofs.list_of.Goals as goal

pub loop-i-init : goal.loop-i-init
loop-i-init c = let e : c.default-slots.result ≡ no_slot = search rules in ap (replicate most_slots) e ∙ sym (read_none c.args.p.now)

pub loop-i-preserved : goal.loop-i-preserved
unfolding part
loop-i-preserved c =
    let i = c.loop-i.i in
    let e : 5 + i * 3 + 3 - (5 + i * 3) ≡ 3 = omega arith in
    rw (c.loop-i.invariant, c.of_words.ensures, e) (read_more c.args.p.now i (omega arith))

pub returns : goal.returns
returns c = let e : c.loop-i.i ≡ c.args.n = omega arith in rw (c.loop-i.invariant, e) (read_all c.args.p.now c.args.n)
