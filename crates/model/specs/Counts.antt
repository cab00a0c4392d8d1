-- Stored reach and counts at an address, and the counts over the regions that demand 3 compares them with (document 01, **Book**).
use Rattle.std.specs.Prelude.{◌≡◌, ℕ, suc, ◌+◌, Bool, false, not, ◌&&◌, List, [], ◌∷◌, eqb, ltb, leb, if◌then◌else◌}
use Rattle.std.proofs.Math.Option.{Option, none, some}
use Rattle.model.specs.Lists.{one_if, exists}
use Rattle.model.specs.State.{State, Region, Root, Alias, Carve, Counts, Record, domain_at}
use Rattle.model.specs.Fields.{Field, get, passes}
use Rattle.model.specs.Tracker.{no_counts}

-- ---- what is stored

-- Does the range from `from` up to, but not including, `to` hold address a?
abbrev pub holds : ℕ → ℕ → ℕ → Bool
holds from to a = leb from a && ltb a to

-- "Stored reach and counts at an address are those of the domain's record there, else 0."
abbrev pub counts_at : List Record → ℕ → Counts
counts_at [] a = no_counts
counts_at (q ∷ l) a = if holds q.start q.end a then q.counts else counts_at l a

-- the stored counts of domain d at address a
abbrev pub stored_counts : State → ℕ → ℕ → Counts
stored_counts s d a = counts_at (domain_at s d).tracker a

-- ---- what the regions say

-- "Carved there: a live carve of it covers the address." Is this slot's region a carve of region i over a?
abbrev pub carves : ℕ → ℕ → Option Region → Bool
carves i a none = false
carves i a (some g) = elim g.kind [ Root ↦ false | Alias p ↦ false | Carve p ↦ eqb p i && holds g.start g.end a ]

-- Among the regions rs, for domain d at address a:
module _ (rs : List (Option Region)) (d a : ℕ) where
  -- Region g in slot i counts: it is d's, covers a, and is not carved there.
  abbrev pub counts_for : ℕ → Region → Bool
  counts_for i g = eqb g.owner d && holds g.start g.end a && not (exists (carves i a) rs)

  -- how many regions count and pass a test of their rights; l is rs from slot i on
  abbrev pub tally : (ℕ → Bool) → ℕ → List (Option Region) → ℕ
  tally t i [] = 0
  tally t i (none ∷ l) = tally t (suc i) l
  tally t i (some g ∷ l) = one_if (counts_for i g && t g.rights) + tally t (suc i) l

-- the number of live regions that count for domain d at address a; for a right, of those that have it
abbrev pub region_count : Field → List (Option Region) → ℕ → ℕ → ℕ
region_count f rs d a = tally rs d a (passes f) 0 rs

-- Stored counts agree with the regions in the five numbers that demand 3 defines; the uncacheable count is not among them.
abbrev pub Agree : List (Option Region) → ℕ → ℕ → Counts → Type 0
Agree rs d a k = (f : Field) → get f k ≡ region_count f rs d a
