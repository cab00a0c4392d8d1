-- The turn of `remove_region` that takes counts (document 01, **Tracker**); q is the record at hand.
use Rattle.std.specs.Prelude.{ℕ, eqb}
use Rattle.base.specs.Cases.{pick}
use Rattle.tables.specs.declared.Region.{Region}
use Rattle.tables.specs.Tables.{Tables, no_record, with_record}
use Rattle.region.specs.declared.AccessRights.{AccessRights}
use Rattle.region.specs.Turns.{Turn, to, onward}
use Rattle.walk_cursors.specs.declared.Cursor.{Cursor}
use Rattle.std.proofs.Common.{Continue}
use Rattle.walk_cursors.specs.Cursors.{next_of, dropped_of}
use Rattle.counts.specs.Counts.{lowered, crossings_of}
use Rattle.tables.specs.Links.{slot_to}
use Rattle.tracker_records.specs.Links.{with_next, freed_record}

-- at reach 0 it is dropped at once, and leaves no counts
unfoldable pub lower_turn : Tables → ℕ → AccessRights → Cursor → Region → Turn
lower_turn s d a c q =
    let p = lowered a.ops.0 q in
    pick (eqb p.ref_count 0) (onward (freed_record (with_next s d c.prev q.next) (slot_to c.at)) (λ v. dropped_of c q.next (crossings_of q no_record)))
    (to (Continue (next_of c q.next c.start (crossings_of q p))) (with_record s (slot_to c.at) p))
