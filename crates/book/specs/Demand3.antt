-- Demand 3: "one claim about the list, not one for each call". The sums and counts of its claims are read off the book.
use Rattle.std.specs.Prelude.{◌≡◌, ℕ, zero, suc, ◌+◌, ◌<◌, Bool, false, not, ◌&&◌, List, [], ◌∷◌, T, eqb}
use Rattle.std.proofs.Math.Option.{some}
use Rattle.model.specs.Lists.{one_if, exists, count_if, Each, In}
use Rattle.model.specs.Outcome.{ok}
use Rattle.model.specs.State.{State, Sizes, Region, Kind, Root, Alias, Carve, parent_of}
use Rattle.model.specs.Fields.{Field, get, passes}
use Rattle.model.specs.Tree.{is_root_kind}
use Rattle.model.specs.Making.{make_tables}
use Rattle.model.specs.Counts.{holds, stored_counts}
use Rattle.model.specs.Perform.{Call, Answer, run}
use Rattle.model.specs.CallWords.{CallWords}
use Rattle.book.specs.Book.{Book, Noted, noted, blank, note}

-- ---- the list

-- The book after a list of calls and their answers.
unfoldable pub note_all : Book → List Call → List Answer → Book
note_all b [] ys = b
note_all b (c ∷ cs) [] = b
note_all b (c ∷ cs) (y ∷ ys) = note_all (note b c y) cs ys

-- ---- counts read off the book

-- The region covers the address.
abbrev pub covers : ℕ → Noted → Bool
covers a r = holds r.start r.end a

-- "Carved there: a live carve of it covers the address": is r such a carve of the region at place k?
abbrev pub carves_at : ℕ → ℕ → Noted → Bool
carves_at k a r = r.alive && covers a r && elim r.kind [ Root ↦ false | Alias p ↦ false | Carve p ↦ eqb p k ]

-- Among the regions rs, for domain d at address a:
module _ (rs : List Noted) (d a : ℕ) where
  -- one of the domain's "live regions covering the address and not carved there"
  abbrev pub counts : ℕ → Noted → Bool
  counts k r = r.alive && eqb r.owner d && covers a r && not (exists (carves_at k a) rs)

  -- how many of them pass a test of their rights; l is rs from place i on
  abbrev pub note_tally : (ℕ → Bool) → ℕ → List Noted → ℕ
  note_tally t i [] = 0
  note_tally t i (r ∷ l) = one_if (counts i r && t r.rights) + note_tally t (suc i) l

-- the number of them, and for a right of those "that hold the right"
abbrev pub book_count : Book → Field → ℕ → ℕ → ℕ
book_count b f d a = note_tally b.regions d a (passes f) 0 b.regions

-- "accepted roots covering the address"; a root never dies (9, and 22 for a close)
abbrev pub is_root_over : ℕ → Noted → Bool
is_root_over a r = is_root_kind r.kind && covers a r

-- "accepted aliases covering it and not since revoked, alone or with a region above"
abbrev pub is_alias_over : ℕ → Noted → Bool
is_alias_over a r = elim r.kind [ Root ↦ false | Alias p ↦ r.alive && covers a r | Carve p ↦ false ]

-- how many regions deal the address out: all roots and live aliases; a carve only moves its parent's share
abbrev pub accepted : Book → ℕ → ℕ
accepted b a = count_if (is_root_over a) b.regions + count_if (is_alias_over a) b.regions

-- an "accepted root covering the address had that right"; flags that joined at a send are none of the four (18)
abbrev pub root_had : Book → Field → ℕ → Bool
root_had b f a = exists (λ r. is_root_over a r && passes f r.rights) b.regions

-- "reach summed over all domains": the first n
abbrev pub sum_to : ℕ → (ℕ → ℕ) → ℕ
sum_to zero f = 0
sum_to (suc n) f = sum_to n f + f n

-- ---- the claims

-- the kind, its parent's place replaced by the slot where that region stands
abbrev pub kind_by : (ℕ → ℕ) → Kind → Kind
kind_by at Root = Root
kind_by at (Alias p) = Alias (at p)
kind_by at (Carve p) = Carve (at p)

-- A stored region is the noted one "in kind, owner, range, rights and parent".
pub record SameRegion (at : ℕ → ℕ) (r : Noted) (g : Region) : Type 0 where
  pub kind : g.kind ≡ kind_by at r.kind
  pub owner : g.owner ≡ r.owner
  pub start : g.start ≡ r.start
  pub end : g.end ≡ r.end
  pub rights : g.rights ≡ r.rights

-- the region at place k lives
abbrev pub Lives : Book → ℕ → Type 0
Lives b k = T (noted b.regions k).alive

-- "Stored live regions match the book's one for one": `at` gives the slot of a place.
pub record OneForOne (b : Book) (s : State) : Type 0 where
  pub at : ℕ → ℕ
  pub place : ℕ → ℕ
  pub stored : (k : ℕ) → Lives b k → (g : Region) × In s.regions (at k) g × SameRegion at (noted b.regions k) g
  pub there : (i : ℕ) (g : Region) → In s.regions i g → Lives b (place i) × at (place i) ≡ i
  pub back : (k : ℕ) → Lives b k → place (at k) ≡ k
  -- a live region's parent lives, so that `at` gives the parent's own slot
  pub parent : (k p : ℕ) → Lives b k → parent_of (noted b.regions k).kind ≡ some p → Lives b p

-- All that demand 3 claims of the tables s after calls that left the book b.
pub record Claims (b : Book) (s : State) : Type 0 where
  -- "the stored reach equals the number of its live regions covering the address and not carved there"
  -- "each stored count of READ, WRITE, EXEC and SUPER equals the number of those that hold the right"
  pub counted : (f : Field) (d a : ℕ) → get f (stored_counts s d a) ≡ book_count b f d a
  -- "reach summed over all domains equals accepted roots covering the address plus accepted aliases covering it and not since revoked"; there are as
  -- many domains as the making asked for
  pub total : (a : ℕ) → sum_to b.sizes.domains (λ d. (stored_counts s d a).reach) ≡ accepted b a
  -- "none of those four counts is above 0 where no accepted root covering the address had that right"; nor the reach where none covers it
  pub rooted : (f : Field) (d a : ℕ) → 0 < get f (stored_counts s d a) → T (root_had b f a)
  -- "Stored live regions match the book's one for one in kind, owner, range, rights and parent."
  pub regions : OneForOne b s

-- Demand 3: "The list starts at an accepted making, any sizes; each call gets the tables the last left, and nothing else writes them."
abbrev pub Demand3 : Type 0
Demand3 = (z : Sizes) (s : State) (cs : List Call) → make_tables z ≡ ok s → Each CallWords cs → Claims (note_all (blank z) cs (run s cs).0) (run s cs).1
