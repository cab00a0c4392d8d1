-- The first i slots are written, then head and count.
use Rattle.std.proofs.Common.{◌≡◌, length, refl, arith}
use Rattle.sizes.specs.Limits.{most_slots}
use Rattle.tables.specs.Domains.{length-slots}
use Rattle.slot_list.specs.Arrays.{length-mapped}
use Rattle.stored_slots.specs.Rows.{written-more, written_all}
use Rattle.stored_slots.proofs.write_list.Goals as goal

pub loop-i-preserved : goal.loop-i-preserved
loop-i-preserved c =
    let n : length c.args.list.slots ≡ most_slots = search length-mapped in
    written-more _ _ _ _ _ c.loop-i.invariant _ _ c.loop-i-test.true (omega arith) refl c.put.ensures

pub returns : goal.returns
returns c = written_all _ _ _ _ _ c.loop-i.invariant (omega arith) (length-slots c.args.n c.args.p.now)
