-- A region read and put back: where its child list is the same only its own row and that of its hash change.
use Rattle.std.specs.Prelude.{◌≡◌, refl, ℕ, ◌<◌, List, length, set}
use Rattle.std.proofs.Common.{sym, ◌∙◌, arith, get_or-set_same, get_or-set_other}
use Rattle.std.proofs.Math.Path.{ap}
use Rattle.std.proofs.Math.Option.{Option, none, some, get_or}
use Rattle.std.proofs.Math.Decide.{ℕ_discrete}
use Rattle.std.proofs.Math.Seq.{set_out}
use Rattle.base.specs.Cases.{lt, ge, cmp}
use Rattle.model.specs.Lists.{at_slot, In}
use Rattle.model.specs.State as state
use Rattle.model.specs.State.{State, Kind, Root, Alias, Carve, none_region, region_in, with_owner, put_region}
use Rattle.model.specs.Layout.{siblings}
use Rattle.laws.specs.Tree.Slots.{in-length}
use Rattle.tables.specs.Tables.{no_region, region_at, with_region_pool, with_regions, with_hashes, with_region, with_hash}
use Rattle.decoded.specs.Rows.{get_or-up, same_up, set-table, same-table}
use Rattle.decoded.specs.Tables.{pool_of, region_for, slot_hash, regions_for, hashes_for, tables_of}

-- the child list in a slot
abbrev pub children_in : Option state.Region → List ℕ
children_in o = (get_or o none_region).children

module _ (rs : List (Option state.Region)) (i : ℕ) (o : Option state.Region) (same : children_in o ≡ children_in (at_slot rs i)) where
  -- every list is as it was
  children-kept : (p : ℕ) → (region_in (set rs i o) p).children ≡ (region_in rs p).children
  children-kept p = elim (ℕ_discrete p i) [
    | yes e ↦ elim (cmp i (length rs)) [
      | lt l ↦ rw e (ap children_in (get_or-set_same rs i o none l) ∙ same)
      | ge l ↦ rw (set_out rs i o l)
    ]
    | no ne ↦ ap children_in (get_or-set_other rs i p o none ne)
  ]

  siblings-kept : (k : Kind) → siblings (set rs i o) k ≡ siblings rs k
  siblings-kept Root = refl
  siblings-kept (Alias p) = children-kept p
  siblings-kept (Carve p) = children-kept p

  region-kept : (j : ℕ) (x : Option state.Region) → region_for (set rs i o) j x ≡ region_for rs j x
  region-kept j none = refl
  region-kept j (some g) = rw (siblings-kept g.kind)

  pub regions-set : (n : ℕ) → length rs ≡ n → i < n → regions_for n (set rs i o) ≡ set (regions_for n rs) i (region_for rs i o)
  unfolding regions_for
  regions-set n e l =
      same_up (λ j. region_for (set rs i o) j (at_slot (set rs i o) j)) (λ j. region_for rs j (at_slot (set rs i o) j)) n (λ j k. region-kept j (at_slot (set rs i o) j))
      ∙ set-table (region_for rs) rs n i o e l

-- ---- hashes

hashes-set : (rs : List (Option state.Region)) (n i : ℕ) (o : Option state.Region) → length rs ≡ n → i < n → hashes_for n (set rs i o) ≡ set (hashes_for n rs) i (slot_hash o)
unfolding hashes_for
hashes-set rs n i o e l = set-table (λ j. slot_hash) rs n i o e l

pub hashes-kept : (rs : List (Option state.Region)) (n i : ℕ) (o : Option state.Region) → slot_hash o ≡ slot_hash (at_slot rs i) → hashes_for n (set rs i o) ≡ hashes_for n rs
unfolding hashes_for
hashes-kept rs n i o e = same-table slot_hash rs n i o e

-- ---- the tables

module _ (s : State) (long : length s.regions ≡ s.sizes.regions) where
  -- also for a region that is made or freed, with another pool
  pub region-set : (p : state.Pool) (i : ℕ) (o : Option state.Region) → i < s.sizes.regions → children_in o ≡ children_in (at_slot s.regions i)
      → tables_of (state.with_regions p (set s.regions i o) s) ≡ with_hash (with_region (with_region_pool (tables_of s) (pool_of s.sizes.regions p)) i (region_for s.regions i o)) i (slot_hash o)
  unfolding tables_of with_region with_regions with_region_pool with_hash with_hashes
  region-set p i o l e =
      let r = regions-set s.regions i o e s.sizes.regions long l in
      let h = hashes-set s.regions s.sizes.regions i o long l in
      λ t. with_hashes (with_regions (with_region_pool (tables_of s) (pool_of s.sizes.regions p)) (r t)) (h t)

  -- where the hash is the same
  pub region-set-kept : (p : state.Pool) (i : ℕ) (o : Option state.Region) → i < s.sizes.regions → children_in o ≡ children_in (at_slot s.regions i) → slot_hash o ≡ slot_hash (at_slot s.regions i)
      → tables_of (state.with_regions p (set s.regions i o) s) ≡ with_region (with_region_pool (tables_of s) (pool_of s.sizes.regions p)) i (region_for s.regions i o)
  unfolding tables_of with_region with_regions with_region_pool with_hashes
  region-set-kept p i o l e q =
      let r = regions-set s.regions i o e s.sizes.regions long l in
      let h = hashes-kept s.regions s.sizes.regions i o q in
      λ t. with_hashes (with_regions (with_region_pool (tables_of s) (pool_of s.sizes.regions p)) (r t)) (h t)

  module _ (i : ℕ) (g : state.Region) (at : In s.regions i g) where
    below : i < s.sizes.regions
    below = omega (arith, in-length s.regions i g at, long)

    pub region-read : region_at (tables_of s) i ≡ region_for s.regions i (some g)
    unfolding tables_of region_at regions_for
    region-read = get_or-up (λ j. region_for s.regions j (at_slot s.regions j)) s.sizes.regions i no_region below ∙ ap (region_for s.regions i) at

    -- with another hash
    pub region-put : (h : state.Region) → h.children ≡ g.children → tables_of (put_region i h s) ≡ with_hash (with_region (tables_of s) i (region_for s.regions i (some h))) i (slot_hash (some h))
    unfolding tables_of with_region with_regions with_region_pool with_hash with_hashes
    region-put h e = region-set s.region_pool i (some h) below (e ∙ ap children_in (sym at))

    pub owner-put : (d : ℕ) → tables_of (put_region i (with_owner d g) s) ≡ with_region (tables_of s) i (region_for s.regions i (some (with_owner d g)))
    unfolding tables_of with_region with_regions with_region_pool
    owner-put d = region-set-kept s.region_pool i (some (with_owner d g)) below (ap children_in (sym at)) (ap slot_hash (sym at))
