-- Walks over a domain's records (document 01, **Tracker**), turn by turn; q is the record at hand.
use Rattle.std.specs.Prelude.{ℕ, zero, suc, ◌+◌, ◌*◌, eqb, ltb, leb}
use Rattle.base.specs.Cases.{pick}
use Rattle.tables.specs.declared.Region.{Region}
use Rattle.tables.specs.Tables.{Tables, record_at}
use Rattle.refusals.specs.Refusals.{memory}
use Rattle.answers.specs.Answers.{Effect, refused, and_then}
use Rattle.region.specs.declared.AccessRights.{AccessRights}
use Rattle.region.specs.declared.Way.{Way}
use Rattle.region.specs.declared.Way.TheVariants.{Add, Remove, Merge}
use Rattle.region.specs.Turns.{Turn, to, over, cut_start, cut_end, merge_at}
use Rattle.gain_turns.specs.Turns.{fill_turn, raise_turn}
use Rattle.loss_turns.specs.Turns.{lower_turn}
use Rattle.walk_cursors.specs.declared.Cursor.{Cursor}
use Rattle.std.proofs.Common.{Continue, Break}
use Rattle.walk_cursors.specs.Cursors.{next_of}
use Rattle.tables.specs.Links.{slot_to}
use Rattle.tracker_records.specs.Links.{first_link}

-- ---- turns

-- `add_region`, where a record is at hand
unfoldable pub add_at : Tables → ℕ → AccessRights → Cursor → Region → Turn
add_at s d a c q =
    pick (ltb c.start q.start) (fill_turn s d a c (pick (ltb q.start a.end) q.start a.end))
    (pick (leb q.end c.start) (to (Continue (next_of c q.next c.start 0)) s)
    (pick (ltb q.start c.start) (cut_start s c)
    (pick (ltb a.end q.end) (cut_end s c a.end) (raise_turn s a c q))))

unfoldable pub add_turn : Tables → ℕ → AccessRights → Cursor → Turn
add_turn s d a c =
    pick (leb a.end c.start) (over c s)
    (pick (eqb c.at 0) (fill_turn s d a c a.end) (add_at s d a c (record_at s (slot_to c.at))))

-- `remove_region`, where a record is at hand
unfoldable pub remove_at : Tables → ℕ → AccessRights → Cursor → Region → Turn
remove_at s d a c q =
    pick (leb a.end q.start) (over c s)
    (pick (leb q.end c.start) (to (Continue (next_of c q.next c.start 0)) s)
    (pick (ltb q.start c.start) (cut_start s c)
    (pick (ltb a.end q.end) (cut_end s c a.end) (lower_turn s d a c q))))

unfoldable pub remove_turn : Tables → ℕ → AccessRights → Cursor → Turn
remove_turn s d a c = pick (eqb c.at 0) (over c s) (remove_at s d a c (record_at s (slot_to c.at)))

unfoldable pub merge_turn : Tables → Cursor → Turn
merge_turn s c =
    let q = record_at s (slot_to c.at) in
    pick (eqb c.at 0) (over c s) (pick (eqb q.next 0) (over c s) (merge_at s c q (record_at s (slot_to q.next))))

abbrev pub turn : Way → Tables → ℕ → AccessRights → Cursor → Turn
turn Add s d a c = add_turn s d a c
turn Remove s d a c = remove_turn s d a c
turn Merge s d a c = merge_turn s c

-- ---- walks

-- n turns at most. A walk over linked records needs fewer; 1 where the links go round.
unfoldable pub walk : Way → ℕ → AccessRights → ℕ → Cursor → Tables → Effect
walk w d a zero c s = refused memory s
walk w d a (suc n) c s = elim (turn w s d a c).answer [ Continue k ↦ walk w d a n k (turn w s d a c).tables | Break x ↦ record { answer = x; tables = (turn w s d a c).tables } ]

-- enough for each way: a record has three turns at most
abbrev pub turns : Tables → ℕ
turns s = 3 * s.sizes.records + 3

-- from domain d's first record
unfoldable pub walked : Way → ℕ → AccessRights → ℕ → Tables → Effect
walked w d a marks s = walk w d a (turns s) (record { prev = 0; at = first_link s d; start = a.start; marks = marks }) s

-- ---- the whole gain and the whole loss of a range (the model's gain and lose); the answer is the marks of the counts that left or came to 0

unfoldable pub add_region : ℕ → AccessRights → Tables → Effect
add_region d a s = and_then (walked Add d a 0 s) (walked Merge d a)

unfoldable pub remove_region : ℕ → AccessRights → Tables → Effect
remove_region d a s = and_then (walked Remove d a 0 s) (walked Merge d a)
