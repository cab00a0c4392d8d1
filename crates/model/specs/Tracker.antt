-- **Tracker** (document 01; `RegionTracker`). Records rise; both walks go from left to right and take and free record slots on the way. A range is named by
-- two addresses, `from` and, not included, `to`; r is its rights. Proved in crate laws: what `gain` and `lose` make of the counts at each address
-- (`gain-count`, `lose-count`), and that they mark exactly the counts that came to or left 0 (`gain-marks`, `lose-marks`). So who does not ask which record
-- slot is taken, or when 13 comes, reads down to `Walk`, then `meets`, `mergeable`, `gain` and `lose`.
use Rattle.std.specs.Prelude.{ℕ, ◌+◌, ◌-◌, min, max, Bool, not, ◌&&◌, List, [], ◌∷◌, ◌++◌, eqb, ltb, if◌then◌else◌}
use Rattle.model.specs.Lists.{one_if, is_empty, every}
use Rattle.model.specs.Outcome.{Outcome, ok, ◌>>=◌}
use Rattle.refusals.specs.Refusals.{no_tracker}
use Rattle.rights.specs.Rights.{has, union, UNCACHEABLE}
use Rattle.model.specs.State.{Counts, Record, Pool}
use Rattle.model.specs.Fields.{fields, get, counter, each, marks_where}
use Rattle.model.specs.Pool.{allocate, free}

-- The counts of a new record: "the uncacheable count is 1 or 0 by the rights that made the record".
abbrev pub new_counts : ℕ → Counts
new_counts r = each (λ f. counter f r) (one_if (has r UNCACHEABLE))

-- Gain "adds one", loss "subtracts one", in sound tables never from 0; "later gains and losses don't change" the uncacheable count.
abbrev pub raise : ℕ → Counts → Counts
raise r k = each (λ f. get f k + counter f r) k.uncacheable

abbrev pub lower : ℕ → Counts → Counts
lower r k = each (λ f. get f k - counter f r) k.uncacheable

-- "A change means a count left or came to 0."
abbrev pub crosses : ℕ → ℕ → Bool
crosses a b = if eqb a 0 then not (eqb b 0) else eqb b 0

-- The counts where no record is.
abbrev pub no_counts : Counts
no_counts = each (λ f. 0) 0

-- Document 02, request 4: a gain or loss says "for reach and each of the four rights, whether that count came to or left 0". The uncacheable count has no mark.
abbrev pub crossings : Counts → Counts → ℕ
crossings j k = marks_where (λ f. crosses (get f j) (get f k))

-- "six equal counts" (`same_counts`)
abbrev pub same_counts : Counts → Counts → Bool
same_counts j k = every (λ f. eqb (get f j) (get f k)) fields && eqb j.uncacheable k.uncacheable

-- another end; other counts
abbrev pub with_end : ℕ → Record → Record
with_end e q = record { slot = q.slot; start = q.start; end = e; counts = q.counts }

abbrev pub with_counts : Counts → Record → Record
with_counts k q = record { slot = q.slot; start = q.start; end = q.end; counts = k }

-- What a walk leaves: the records, the record pool, and the marks of the counts that came to or left 0 "somewhere in the range".
pub record Walk : Type 0 where
  pub records : List Record
  pub pool : Pool
  pub marks : ℕ

-- A record is split: the right half takes a new slot, 13 where none is free (`split_region_at`).
unfoldable pub split_at : ℕ → Record → Pool → Outcome (Record × Record × Pool)
split_at a q p = do
  (i, p₁) ← allocate no_tracker p
  ok (with_end a q, record { slot = i; start = a; end = q.end; counts = q.counts }, p₁)

-- "splits at edges": the part of q before `from` is cut off
unfoldable pub cut_before : ℕ → Record → Pool → Outcome (List Record × Record × Pool)
cut_before from q p = if ltb q.start from then (split_at from q p >>= λ (l, r, p₁). ok (l ∷ [], r, p₁)) else ok ([], q, p)

-- and the part from `to` on
unfoldable pub cut_after : ℕ → Record → Pool → Outcome (Record × List Record × Pool)
cut_after to q p = if ltb to q.end then (split_at to q p >>= λ (l, r, p₁). ok (l, r ∷ [], p₁)) else ok (q, [], p)

-- Have q and the range an address in common? Touching ranges have none. (Of a range that is not empty; `get_refcount` asks it of any two numbers.)
abbrev pub meets : ℕ → ℕ → Record → Bool
meets from to q = ltb from q.end && ltb q.start to

-- "fills gaps": a new record over the range, if that is not empty (`insert_after`, `insert_head`).
unfoldable pub fill_gap : ℕ → ℕ → ℕ → Pool → Outcome (List Record × Pool)
fill_gap r from to p = if ltb from to then (allocate no_tracker p >>= λ (i, p₁). ok (record { slot = i; start = from; end = to; counts = new_counts r } ∷ [], p₁)) else ok ([], p)

-- the marks of what was filled: reach, and the rights that were gained
abbrev pub fill_marks : ℕ → List Record → ℕ
fill_marks r new = if is_empty new then 0 else crossings no_counts (new_counts r)

-- q is cut at the edges, the left one first, and the part inside is raised (`partial_add_region_overlapping`).
abbrev pub raise_inside : ℕ → ℕ → ℕ → Record → Pool → Outcome Walk
raise_inside r from to q p = do
  (before, q₁, p₁) ← cut_before from q p
  (q₂, after, p₂) ← cut_after to q₁ p₁
  let k = raise r q₂.counts
  ok (record { records = before ++ (with_counts k q₂ ∷ after); pool = p₂; marks = crossings q₂.counts k })

-- a record outside the range
abbrev pub as_it_was : Record → Pool → Walk
as_it_was q p = record { records = q ∷ []; pool = p; marks = 0 }

-- One record gains.
unfoldable pub add_to : ℕ → ℕ → ℕ → Record → Pool → Outcome Walk
add_to r from to q p = if meets from to q then raise_inside r from to q p else ok (as_it_was q p)

-- **Tracker**, gain: the range with rights r, from left to right (`add_region`). The gap before a record is filled, up to `to` at most, before the record
-- is cut. Behind the record the walk goes on from its end: so nothing is filled twice, and nothing behind a record that ends past `to`.
-- With a record 4 to 6, a gain of 2 to 10 fills 2 to 4, raises 4 to 6, and goes on with 6 to 10.
unfoldable pub add_region : ℕ → ℕ → ℕ → List Record → Pool → Outcome Walk
add_region r from to [] p = do
  (new, p₁) ← fill_gap r from to p
  ok (record { records = new; pool = p₁; marks = fill_marks r new })
add_region r from to (q ∷ l) p = do
  (new, p₁) ← fill_gap r from (min to q.start) p
  here ← add_to r from to q p₁
  rest ← add_region r (max from q.end) to l here.pool
  ok (record { records = new ++ here.records ++ rest.records; pool = rest.pool; marks = union (union (fill_marks r new) here.marks) rest.marks })

-- A record "at reach 0" is dropped, and its slot freed (16).
unfoldable pub keep_or_drop : Record → Pool → Outcome (List Record × Pool)
keep_or_drop q p = if eqb q.counts.reach 0 then (free q.slot p >>= λ p₁. ok ([], p₁)) else ok (q ∷ [], p)

-- what is left of counts k: none where the record is dropped (in sound tables its right counts are 0 by then)
abbrev pub left_counts : Counts → Counts
left_counts k = if eqb k.reach 0 then no_counts else k

-- q is cut as above; the part inside is lowered, and may be dropped.
abbrev pub lower_inside : ℕ → ℕ → ℕ → Record → Pool → Outcome Walk
lower_inside r from to q p = do
  (before, q₁, p₁) ← cut_before from q p
  (q₂, after, p₂) ← cut_after to q₁ p₁
  let k = lower r q₂.counts
  (kept, p₃) ← keep_or_drop (with_counts k q₂) p₂
  ok (record { records = before ++ kept ++ after; pool = p₃; marks = crossings q₂.counts (left_counts k) })

-- One record loses.
unfoldable pub remove_from : ℕ → ℕ → ℕ → Record → Pool → Outcome Walk
remove_from r from to q p = if meets from to q then lower_inside r from to q p else ok (as_it_was q p)

-- **Tracker**, loss: the range with rights r, from left to right (`remove_region`). A gap in the range is passed over; in sound tables there is none.
-- With one record 0 to 16 of reach 1, a loss of 4 to 8 takes a slot for 4 to 16, another for 8 to 16, and frees the first of the two again.
unfoldable pub remove_region : ℕ → ℕ → ℕ → List Record → Pool → Outcome Walk
remove_region r from to [] p = ok (record { records = []; pool = p; marks = 0 })
remove_region r from to (q ∷ l) p = do
  here ← remove_from r from to q p
  rest ← remove_region r from to l here.pool
  ok (record { records = here.records ++ rest.records; pool = rest.pool; marks = union here.marks rest.marks })

-- May q and its right neighbour n be one record? "touching neighbours with six equal counts"
abbrev pub mergeable : Record → Record → Bool
mergeable q n = eqb q.end n.start && same_counts q.counts n.counts

-- "both then merge", from the head on; the left record keeps its slot, the right one's is freed (`coalesce`).
unfoldable pub merge_into : Record → List Record → Pool → Outcome (List Record × Pool)
merge_into q [] p = ok (q ∷ [], p)
merge_into q (n ∷ l) p = if mergeable q n then (free n.slot p >>= λ p₁. merge_into (with_end n.end q) l p₁) else (merge_into n l p >>= λ (m, p₁). ok (q ∷ m, p₁))

-- the merge of a whole list
unfoldable pub coalesce : List Record → Pool → Outcome (List Record × Pool)
coalesce [] p = ok ([], p)
coalesce (q ∷ l) p = merge_into q l p

-- A walk, and then the merge.
unfoldable pub merged : Outcome Walk → Outcome Walk
merged m = do
  w ← m
  (l, p) ← coalesce w.records w.pool
  ok (record { records = l; pool = p; marks = w.marks })

-- The whole gain and the whole loss of a range: at each address in it one more, or one less, in the reach and in each right of r, elsewhere the counts stay,
-- and the marks are of all that came to or left 0 (`gain-count`, `lose-count`, `gain-marks`, `lose-marks`, crate laws). Who asks neither for record slots nor
-- for 13 need not read the walks above.
unfoldable pub gain : ℕ → ℕ → ℕ → List Record → Pool → Outcome Walk
gain r from to l p = merged (add_region r from to l p)

unfoldable pub lose : ℕ → ℕ → ℕ → List Record → Pool → Outcome Walk
lose r from to l p = merged (remove_region r from to l p)
