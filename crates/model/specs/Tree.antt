-- Regions as a forest (document 01, **Alias**, **Carve**, **Send**, **Child lists**; `segment`).
use Rattle.std.specs.Prelude.{ℕ, Bool, true, false, not, ◌&&◌, List, [], ◌∷◌, ◌++◌, map, ltb, leb, if◌then◌else◌}
use Rattle.std.proofs.Math.Option.{Option}
use Rattle.model.specs.Lists.{exists, without}
use Rattle.rights.specs.Rights.{allowed}
use Rattle.model.specs.State.{State, Region, Kind, Root, Alias, Carve, Access, region_in, region_at, put_region, with_children}

-- the two tests of a region's kind (`is_carved`, `is_root`)
abbrev pub is_carve : Kind → Bool
is_carve Root = false
is_carve (Alias p) = false
is_carve (Carve p) = true

abbrev pub is_root_kind : Kind → Bool
is_root_kind Root = true
is_root_kind (Alias p) = false
is_root_kind (Carve p) = false

-- The range that a region has, with its rights.
abbrev pub access_of : Region → Access
access_of g = record { start = g.start; end = g.end; rights = g.rights }

-- Touching ranges do not overlap (`AccessRights::overlap`). The test is that of the tracker's `meets`.
abbrev pub overlaps : Access → Region → Bool
overlaps a g = ltb a.start g.end && ltb g.start a.end

-- the children, in list order
abbrev pub children_of : List (Option Region) → Region → List Region
children_of rs g = map (region_in rs) g.children

-- "The range lies in the parent's", and the rights in the parent's plus the extras.
abbrev pub fits : Access → Region → Bool
fits a g = leb g.start a.start && leb a.end g.end && allowed g.rights a.rights

-- **Alias**: "overlaps no carved child" (`check_alias`).
abbrev pub check_alias : State → Region → Access → Bool
check_alias s g a = fits a g && not (exists (λ c. is_carve c.kind && overlaps a c) (children_of s.regions g))

-- **Carve**: "As alias, but it overlaps no child of either kind" (`check_carve`).
abbrev pub check_carve : State → Region → Access → Bool
check_carve s g a = fits a g && not (exists (overlaps a) (children_of s.regions g))

-- **Child lists** "rise by start; a newcomer goes after equals": i, which starts at a, into a child list.
abbrev pub insert_sorted : List (Option Region) → ℕ → ℕ → List ℕ → List ℕ
insert_sorted rs i a [] = i ∷ []
insert_sorted rs i a (c ∷ cs) = if ltb a (region_in rs c).start then i ∷ c ∷ cs else c ∷ insert_sorted rs i a cs

-- Region i joins, or leaves, the child list of region p (`insert_child`, `remove_child`).
unfoldable pub insert_child : ℕ → ℕ → State → State
insert_child p i s = let g = region_at s p in put_region p (with_children (insert_sorted s.regions i (region_at s i).start g.children) g) s

unfoldable pub remove_child : ℕ → ℕ → State → State
remove_child p i s = let g = region_at s p in put_region p (with_children (without i g.children) g) s

-- A range with no rights: start, end.
abbrev pub Range : Type 0
Range = ℕ × ℕ

-- "empty pieces dropped"
abbrev pub piece : ℕ → ℕ → List Range
piece a b = if ltb a b then (a, b) ∷ [] else []

-- **Send**: "a region's range minus its carved children, rising, empty pieces dropped"; from a on, up to e (`EffectiveRegionIterator`).
abbrev pub effective_from : ℕ → ℕ → List Region → List Range
effective_from a e [] = piece a e
effective_from a e (c ∷ cs) = if is_carve c.kind then piece a c.start ++ effective_from c.end e cs else effective_from a e cs

-- all effective ranges of a region
abbrev pub effective_ranges : State → Region → List Range
effective_ranges s g = effective_from g.start g.end (children_of s.regions g)
