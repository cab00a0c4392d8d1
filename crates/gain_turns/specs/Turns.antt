-- The turns of `add_region` that give counts (document 01, **Tracker**); q is the record at hand.
use Rattle.std.specs.Prelude.{ℕ}
use Rattle.tables.specs.declared.Region.{Region}
use Rattle.tables.specs.Tables.{Tables, no_record, with_record}
use Rattle.region.specs.declared.AccessRights.{AccessRights}
use Rattle.region.specs.Turns.{Turn, to, onward}
use Rattle.walk_cursors.specs.declared.Cursor.{Cursor}
use Rattle.std.proofs.Common.{Continue}
use Rattle.walk_cursors.specs.Cursors.{noted, next_of}
use Rattle.counts.specs.Counts.{made, raised, crossings_of}
use Rattle.tables.specs.Links.{slot_to}
use Rattle.tracker_records.specs.Links.{inserted}

-- a gap before it becomes a record up to e, whose counts were 0
unfoldable pub fill_turn : Tables → ℕ → AccessRights → Cursor → ℕ → Turn
fill_turn s d a c e =
    let q = made c.start e a.ops.0 c.at in
    onward (inserted s d c.prev q) (λ k. record { prev = k; at = c.at; start = e; marks = noted c (crossings_of no_record q) })

unfoldable pub raise_turn : Tables → AccessRights → Cursor → Region → Turn
raise_turn s a c q =
    let p = raised a.ops.0 q in
    to (Continue (next_of c q.next q.end (crossings_of q p))) (with_record s (slot_to c.at) p)
