-- What a turn of a walk over a domain's records comes to (document 01, **Tracker**): it changes one record, or goes on to the next. Here the turns that
-- leave the counts as they are; q is the record at hand.
use Rattle.std.specs.Prelude.{ℕ, Ok, Err}
use Rattle.base.specs.Cases.{pick}
use Rattle.tables.specs.declared.Region.{Region}
use Rattle.tables.specs.Tables.{Tables, with_record}
use Rattle.answers.specs.Answers.{Answer, Effect}
use Rattle.walk_cursors.specs.declared.Cursor.{Cursor}
use Rattle.walk_cursors.specs.Cursors.{Progress, next_of}
use Rattle.std.proofs.Common.{Continue, Break}
use Rattle.counts.specs.Counts.{mergeable_b}
use Rattle.tables.specs.Links.{slot_to}
use Rattle.tracker_records.specs.Links.{with_end, split, freed_record}

-- what a turn comes to, and the tables that it leaves
pub record Turn : Type 0 where
  pub answer : Progress
  pub tables : Tables

abbrev pub to : Progress → Tables → Turn
to p s = record { answer = p; tables = s }

abbrev after_step : Answer → (ℕ → Cursor) → Progress
after_step (Ok v) f = Continue (f v)
after_step (Err r) f = Break (Err r)

-- a step, and the cursor that its value gives
abbrev pub onward : Effect → (ℕ → Cursor) → Turn
onward x f = record { answer = after_step x.answer f; tables = x.tables }

abbrev pub over : Cursor → Tables → Turn
over c s = to (Break (Ok c.marks)) s

-- ---- the turns

-- it is cut at the range's start, and its right half is at hand
unfoldable pub cut_start : Tables → Cursor → Turn
cut_start s c = onward (split s (slot_to c.at) c.start) (λ k. record { prev = c.at; at = k; start = c.start; marks = c.marks })

-- it is cut at the range's end
unfoldable pub cut_end : Tables → Cursor → ℕ → Turn
cut_end s c e = onward (split s (slot_to c.at) e) (λ k. c)

-- `coalesce`: q takes in the record n behind it, which is freed
unfoldable pub merge_at : Tables → Cursor → Region → Region → Turn
merge_at s c q n =
    pick (mergeable_b q n) (onward (freed_record (with_record s (slot_to c.at) (with_end q n.end n.next)) (slot_to q.next)) (λ v. c))
    (to (Continue (next_of c q.next c.start 0)) s)
