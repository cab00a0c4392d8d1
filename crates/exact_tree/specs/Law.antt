-- A law: the test of the region tree is exact. Tables that pass it have the clauses of the tree, where the pools have passed theirs; and tables
-- that are well formed and sound pass it.
use Rattle.std.specs.Prelude.{◌≡◌, ◌⊎◌, true, List, ℕ, suc, ◌-◌, ◌≤◌, ◌<◌, replicate}
use Rattle.std.proofs.Common.{ap, ◌∙◌, inl, inr, arith}
use Rattle.std.proofs.Math.Path.{subst}
use Rattle.std.proofs.Math.Option.{Option, some}
use Rattle.base.specs.Tests.{both_true}
use Rattle.base.specs.Lists.{get_or-zeros}
use Rattle.base.specs.Options.{none-some, some_same}
use Rattle.model.specs.Lists.{In, at_slot}
use Rattle.model.specs.State as state
use Rattle.model.specs.State.{parent_of}
use Rattle.model.specs.Sound.{Rooted, RegionSound, OutsideSound}
use Rattle.laws.specs.Tree.Sum.{sum}
use Rattle.tables.specs.declared.RegionCapa.{RegionCapa}
use Rattle.tables.specs.Tables.{Tables, region_at}
use Rattle.sizes.specs.Sizes.{total}
use Rattle.decoded.specs.Shape.{Shaped}
use Rattle.decoded.specs.Decode.Read.{kind_from, taken, region_read, regions_from, state_of}
use Rattle.decoded.specs.Canonical.WellFormed.{OutsideWellFormed, RegionWellFormed, region_row}
use Rattle.decoded.specs.Canonical.Sound.{parent_is}
use Rattle.sound_tree.specs.Tree.{is_child, child_count, rows_hold, lists_hold, roots_hold, tree_holds}
use Rattle.sound_tree.specs.Turns.{tally-few}
use Rattle.exact_tree.specs.Lists.{many, Listed, lists-facts, facts-lists, tells, child-sum}
use Rattle.exact_tree.specs.Rows.{Used, used, blank, PoolClauses, RegionWords, slot, RowFacts, rows-facts, facts-rows}
use Rattle.exact_tree.specs.Roots.{roots-lead, climbs-all}
use Rattle.exact_tree.specs.Read.{no-parent, read-in, in-read}
use Rattle.exact_tree.specs.Forth.{over, region-sound}
use Rattle.exact_tree.specs.Back.{rows_of, listed, members, climb-any}

-- what `WellFormed` and `Sound` say of the regions
pub record TreeClauses (v : Tables) : Type 0 where
  pub regions_used : (i : ℕ) → i < v.sizes.regions → taken v.region_pool i ≡ true → RegionWellFormed (region_row v i)
  pub regions : (i : ℕ) (g : state.Region) → In (state_of v).regions i g → RegionSound (state_of v).regions i g

-- the way on from a region that leads to a root
leads-on : (rs : List (Option state.Region)) (i p : ℕ) (g : state.Region) → In rs i g → parent_of g.kind ≡ some p → Rooted rs i → Rooted rs p
leads-on rs i p g m e (Rooted.top _ h n q) = absurd (none-some (parent_of h.kind) p q (ap (λ (x : state.Region). parent_of x.kind) (some_same (at_slot rs i) h g n m) ∙ e))
leads-on rs i p g m e (Rooted.under _ o h n q r) =
    let z : o ≡ p = some_same (parent_of h.kind) o p q (ap (λ (x : state.Region). parent_of x.kind) (some_same (at_slot rs i) h g n m) ∙ e) in
    subst (Rooted rs) z r

module _ (v : Tables) (s : Shaped v) (pools : PoolClauses v) (t : tree_holds v ≡ true) where
  abbrev size : ℕ
  size = v.sizes.regions

  parts : (rows_hold v ≡ true) × (lists_hold v ≡ true) × (roots_hold v ≡ true)
  unfolding tree_holds
  parts = let a = both_true (rows_hold v) _ t in let b = both_true (lists_hold v) (roots_hold v) a.1 in (a.0, b.0, b.1)

  rows : (i : ℕ) → Used v i → RowFacts v i
  rows = rows-facts v parts.0

  lists : (sum (many (region_row v) size) size ≡ child_count (region_row v) size) × ((j : ℕ) → 0 ≤ j → j < size → Listed (region_row v) size j)
  unfolding lists_hold region_at child_count
  lists = lists-facts (region_row v) size size 0 (child_count (region_row v) size) (child_count (region_row v) size) (tally-few (is_child (region_row v)) size 0) parts.1 (omega arith) (omega arith)

  below : (k : ℕ) → k < size → Listed (region_row v) size k
  below k b = lists.1 k (omega arith) b

  all : sum (many (region_row v) size) size ≡ sum (tells (is_child (region_row v))) size
  all = lists.0 ∙ child-sum (region_row v) size

  -- ---- ways to a root

  abbrev rs : List (Option state.Region)
  rs = regions_from v

  parent-at : (j : ℕ) → Used v j → 2 ≤ (region_row v j).kind → parent_of (region_read v j).kind ≡ some ((region_row v j).parent - 1)
  parent-at j u c =
      let z : (region_row v j).parent ≡ suc ((region_row v j).parent - 1) = omega (arith, (rows j u).child_parent c) in
      ap (λ l. parent_of (kind_from (region_row v j).kind l)) z ∙ parent_is (region_row v j).kind ((region_row v j).parent - 1) c

  told : (j : ℕ) → Used v j ⊎ ((region_row v j).kind < 2)
  told j = elim (slot v s pools j) [ used u ↦ inl u | blank e ↦ inr (omega (arith, ap (λ (r : RegionCapa). r.kind) e)) ]

  lead : (i : ℕ) → Used v i → Rooted rs i
  unfolding roots_hold region_at
  lead i u =
      roots-lead (region_row v) (Used v) (Rooted rs)
      (λ j u h. Rooted.top j (region_read v j) (read-in v j u) (no-parent (region_row v j).kind (region_row v j).parent h))
      (over v s pools rows below all)
      (λ j u c r. Rooted.under j ((region_row v j).parent - 1) (region_read v j) (read-in v j u) (parent-at j u c) r)
      (λ j u c r. leads-on rs j ((region_row v j).parent - 1) (region_read v j) (read-in v j u) (parent-at j u c) r)
      size told size 0 (replicate (total v.sizes) 0) (λ j h u. absurd (omega (arith, get_or-zeros (total v.sizes) j))) parts.2 i (omega arith) (omega (arith, u.below)) u

  -- ---- the clauses

  used-well-formed : (i : ℕ) → i < size → taken v.region_pool i ≡ true → RegionWellFormed (region_row v i)
  used-well-formed i b e = let f = rows i (record { below = b; is = e }) in record { kind_low = f.kind_low; kind_high = f.kind_high; owned = f.owned; root_parent = f.root_parent; root_next = f.root_next; child_parent = f.child_parent }

  pub tree-holds : RegionWords v → TreeClauses v
  unfolding state_of
  tree-holds words = record {
    regions_used = used-well-formed;
    regions = λ i g m. let r = in-read v i g m in subst (RegionSound rs i) r.1 (region-sound v s pools rows below all words lead i r.0);
  }

module _ (v : Tables) (s : Shaped v) (t : OutsideWellFormed v) (h : OutsideSound (state_of v)) where
  lists-hold : lists_hold v ≡ true
  unfolding lists_hold region_at
  lists-hold = facts-lists (region_row v) v.sizes.regions v.sizes.regions 0 (child_count (region_row v) v.sizes.regions) (λ j b. listed v s t h j) (omega (arith, child-sum (region_row v) v.sizes.regions, members v s t h)) (omega arith)

  roots-hold : roots_hold v ≡ true
  unfolding roots_hold region_at
  roots-hold = climbs-all (region_row v) v.sizes.regions (climb-any v s t h) v.sizes.regions 0 (replicate (total v.sizes) 0) (omega arith)

  pub holds-tree : tree_holds v ≡ true
  unfolding tree_holds
  holds-tree = rw (facts-rows v (rows_of v s t h), lists-hold, roots-hold)
