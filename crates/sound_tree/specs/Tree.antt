-- The test of the region tree, in the shape in which the code computes it (document 01, **Sound**): "each live non-root is in exactly its parent's
-- list, without circles, lists ordered; ranges nonempty and inside the parent's; carves overlap no sibling; READ to SUPER and UNCACHEABLE lie in
-- the parent's".
use Rattle.std.specs.Prelude.{Option, Some, None, Bool, true, false, List, ℕ, zero, suc, ◌+◌, ◌-◌, eqb, leb, ltb, get_or, set, replicate}
use Rattle.base.specs.Cases.{pick}
use Rattle.base.specs.Tests.{both, all_from}
use Rattle.rights.specs.Rights.{allowed}
use Rattle.tables.specs.declared.RegionCapa.{RegionCapa}
use Rattle.tables.specs.Kinds.{ROOT, ALIAS, CARVE}
use Rattle.tables.specs.Tables.{Tables, region_at}
use Rattle.sizes.specs.Sizes.{total}
use Rattle.sound_tree.specs.declared.Run.{Run}

-- 1 where the test holds, else 0
unfoldable pub one_if : Bool → ℕ
one_if b = pick b 1 0

-- one more than a number that is found, else 0
abbrev pub more : Option ℕ → ℕ
more None = 0
more (Some n) = n + 1

-- how many of n slots, from slot k on, pass the test
abbrev pub tally_from : (ℕ → Bool) → ℕ → ℕ → ℕ
tally_from f zero k = 0
tally_from f (suc n) k = one_if (f k) + tally_from f n (suc k)

-- ---- rows

-- the parent's rights and the child's
unfoldable pub rights_fit : ℕ → ℕ → Bool
rights_fit p c = pick (ltb p 256) (pick (ltb c 256) (allowed p c) false) false

-- "inside the parent's" range, and the rights "lie in the parent's"
unfoldable pub in_parent : RegionCapa → RegionCapa → Bool
in_parent g h = both (both (leb h.start g.start) (leb g.end h.end)) (rights_fit h.rights g.rights)

-- A root has no parent and no sibling; another has the parent h.
unfoldable pub place_fits : RegionCapa → RegionCapa → Bool
place_fits g h = pick (eqb g.kind ROOT) (both (eqb g.parent 0) (eqb g.next 0)) (both (ltb 0 g.parent) (in_parent g h))

-- a known kind, an owner, a range that is "nonempty", rights in a byte
unfoldable pub row_fits : RegionCapa → Bool
row_fits g = both (both (leb ROOT g.kind) (leb g.kind CARVE)) (both (ltb 0 g.owner) (both (ltb g.start g.end) (ltb g.rights 256)))

-- the row g of a slot that is free, or of a region in use
unfoldable pub region_fits : (ℕ → RegionCapa) → Bool → RegionCapa → Bool
region_fits row free g = pick free true (both (row_fits g) (place_fits g (row (g.parent - 1))))

-- slot i, by the links of the pool and the rows
unfoldable pub slot_fits : List ℕ → (ℕ → RegionCapa) → ℕ → Bool
slot_fits links row i = region_fits row (ltb 0 (get_or links i 0)) (row i)

-- ---- child lists

-- before the first child
abbrev pub no_run : Run
no_run = record { last = 0; far = 0; carved = 0 }

abbrev pub larger : ℕ → ℕ → ℕ
larger a b = pick (ltb a b) b a

-- behind the child r: the last start, the largest end of all and of the carves so far
unfoldable pub after : Run → RegionCapa → Run
after s r = record { last = r.start; far = larger s.far r.end; carved = pick (eqb r.kind CARVE) (larger s.carved r.end) s.carved }

-- "carves overlap no sibling": a carve starts behind all before it, another behind the carves before it
unfoldable pub floor_of : Run → RegionCapa → ℕ
floor_of s r = pick (eqb r.kind CARVE) s.far s.carved

-- a child of the region that the link `own` names: "lists ordered"
unfoldable pub child_fits : ℕ → Run → RegionCapa → Bool
child_fits own s r = both (eqb r.parent own) (both (leb s.last r.start) (leb (floor_of s r) r.start))

-- From a link on, with n children left to find in all lists: 0 where the list is not fit, else one more than are left behind it.
abbrev pub walk_from : (ℕ → RegionCapa) → ℕ → ℕ → ℕ → Run → ℕ
walk_from row own zero zero s = 1
walk_from row own zero (suc c) s = 0
walk_from row own (suc n) zero s = suc (suc n)
walk_from row own (suc n) (suc c) s = pick (child_fits own s (row c)) (walk_from row own n (row c).next (after s (row c))) 0

-- the children of region k
unfoldable pub walked : (ℕ → RegionCapa) → ℕ → ℕ → ℕ
walked row left k = walk_from row (k + 1) left (row k).child no_run

-- The lists of n regions from slot k on have all the children that are left.
abbrev pub lists_from : (ℕ → RegionCapa) → ℕ → ℕ → ℕ → Bool
lists_from row left zero k = eqb left 0
lists_from row left (suc n) k = pick (ltb 0 (walked row left k)) (lists_from row (walked row left k - 1) n (suc k)) false

abbrev pub is_child : (ℕ → RegionCapa) → ℕ → Bool
is_child row i = ltb ROOT (row i).kind

unfoldable pub child_count : (ℕ → RegionCapa) → ℕ → ℕ
child_count row n = tally_from (is_child row) n 0

-- The children counted while n rows from slot k on are tested, `many` before them: one more than there are; 0 where a row is not fit.
abbrev pub count_from : List ℕ → (ℕ → RegionCapa) → ℕ → ℕ → ℕ → ℕ
count_from links row many zero k = many + 1
count_from links row many (suc n) k = pick (slot_fits links row k) (count_from links row (many + one_if (is_child row k)) n (suc k)) 0

-- ---- "without circles"

-- The words w have 1 for a region that is known to lead to a root.
unfoldable pub stops : (ℕ → RegionCapa) → List ℕ → ℕ → Bool
stops row w j = pick (ltb 0 (get_or w j 0)) true (ltb (row j).kind ALIAS)

-- from slot j up, at most n regions
abbrev pub climb_from : (ℕ → RegionCapa) → List ℕ → ℕ → ℕ → Bool
climb_from row w zero j = false
climb_from row w (suc n) j = pick (stops row w j) true (climb_from row w n ((row j).parent - 1))

-- and the way marked
abbrev pub mark_from : (ℕ → RegionCapa) → List ℕ → ℕ → ℕ → List ℕ
mark_from row w zero j = w
mark_from row w (suc n) j = pick (stops row w j) w (mark_from row (set w j 1) n ((row j).parent - 1))

-- n slots from slot k on, of m
abbrev pub rooted_from : (ℕ → RegionCapa) → ℕ → List ℕ → ℕ → ℕ → Bool
rooted_from row m w zero k = true
rooted_from row m w (suc n) k = pick (climb_from row w m k) (rooted_from row m (mark_from row w m k) n (suc k)) false

-- the words that this leaves
abbrev pub marks_from : (ℕ → RegionCapa) → ℕ → List ℕ → ℕ → ℕ → List ℕ
marks_from row m w zero k = w
marks_from row m w (suc n) k = pick (climb_from row w m k) (marks_from row m (mark_from row w m k) n (suc k)) w

-- ---- the whole

unfoldable pub rows_hold : Tables → Bool
rows_hold v = all_from (slot_fits v.region_pool.links (region_at v)) 0 v.sizes.regions

unfoldable pub lists_hold : Tables → Bool
lists_hold v = lists_from (region_at v) (child_count (region_at v) v.sizes.regions) v.sizes.regions 0

-- no region is known at first
unfoldable pub roots_hold : Tables → Bool
roots_hold v = rooted_from (region_at v) v.sizes.regions (replicate (total v.sizes) 0) v.sizes.regions 0

unfoldable pub tree_holds : Tables → Bool
tree_holds v = both (rows_hold v) (both (lists_hold v) (roots_hold v))
