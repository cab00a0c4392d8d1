-- The regions that are read from the rows.
use Rattle.std.specs.Prelude.{◌≡◌, refl, List, [], ◌∷◌, map, ℕ, zero, suc, ◌≤◌, ◌<◌, T}
use Rattle.std.proofs.Common.{ap, ◌∙◌, arith}
use Rattle.std.proofs.Math.Option.{Option, none, some, get_or}
use Rattle.base.specs.Options.{none-some, some_same}
use Rattle.model.specs.Lists.{Each, In}
use Rattle.model.specs.State as state
use Rattle.model.specs.State.{parent_of, region_in, none_region}
use Rattle.model.specs.Tree.{is_carve}
use Rattle.tables.specs.declared.RegionCapa.{RegionCapa}
use Rattle.tables.specs.Tables.{Tables, no_region}
use Rattle.decoded.specs.Decode.Read.{kind_from, chain_from, region_read, regions_from}
use Rattle.decoded.specs.Decode.Walks.{chain-none}
use Rattle.decoded.specs.Canonical.Ends.{chain_end, end_none}
use Rattle.decoded.specs.Canonical.WellFormed.{region_row}
use Rattle.decoded.specs.Canonical.Pools.{table-used, table-in}
use Rattle.exact_tree.specs.Walks.{next_of}
use Rattle.exact_tree.specs.Lists.{kids, Listed}
use Rattle.exact_tree.specs.Rows.{Used}

-- ---- kinds

pub no-parent : (k l : ℕ) → k < 2 → parent_of (kind_from k l) ≡ none
no-parent zero l h = refl
no-parent (suc zero) l h = refl
no-parent (suc (suc k)) l h = absurd (omega arith)

-- a parent is one that the link names
pub parent-link : (k l p : ℕ) → (2 ≤ k → 0 < l) → parent_of (kind_from k l) ≡ some p → (2 ≤ k) × (l ≡ suc p)
parent-link zero l p h e = absurd (none-some none p refl e)
parent-link (suc zero) l p h e = absurd (none-some none p refl e)
parent-link (suc (suc k)) zero p h e = absurd (omega (arith, h (omega arith)))
parent-link (suc (suc zero)) (suc q) p h e = (omega arith, ap suc (some_same (some q) q p refl e))
parent-link (suc (suc (suc k))) (suc q) p h e = (omega arith, ap suc (some_same (some q) q p refl e))

pub carve-kind : (k l : ℕ) → k ≤ 3 → T (is_carve (kind_from k l)) → k ≡ 3
carve-kind zero l h t = absurd t
carve-kind (suc zero) l h t = absurd t
carve-kind (suc (suc zero)) l h t = absurd t
carve-kind (suc (suc (suc k))) l h t = omega arith

pub kind-carve : (k l : ℕ) → k ≡ 3 → T (is_carve (kind_from k l))
kind-carve k l e = rw e tt

-- ---- slots

module _ (v : Tables) where
  pub read-in : (i : ℕ) → Used v i → In (regions_from v) i (region_read v i)
  unfolding regions_from
  read-in i u = table-used v.sizes.regions v.region_pool (region_read v) i u.below u.is

  pub in-read : (i : ℕ) (g : state.Region) → In (regions_from v) i g → Used v i × (region_read v i ≡ g)
  unfolding regions_from
  in-read i g e = let t = table-in v.sizes.regions v.region_pool (region_read v) i g e in (record { below = t.0; is = t.1 }, t.2)

  -- the starts of children that are in use
  pub same-starts : (l : List ℕ) → Each (Used v) l → map (λ (c : state.Region). c.start) (map (region_in (regions_from v)) l) ≡ map (λ c. (region_row v c).start) l
  same-starts [] h = refl
  same-starts (c ∷ l) h =
      let e : (region_in (regions_from v) c).start ≡ (region_row v c).start = ap (λ (x : Option state.Region). (get_or x none_region).start) (read-in c h.0) in
      λ t. e t ∷ same-starts l h.1 t

  -- a zero row has no children
  module _ (k : ℕ) (e : region_row v k ≡ no_region) where
    pub blank-kids : kids (region_row v) v.sizes.regions k ≡ []
    blank-kids = ap (λ (r : RegionCapa). chain_from (next_of (region_row v)) v.sizes.regions r.child) e ∙ chain-none (next_of (region_row v)) v.sizes.regions

    pub blank-listed : Listed (region_row v) v.sizes.regions k
    blank-listed = record {
      ends = ap (λ (r : RegionCapa). chain_end (next_of (region_row v)) v.sizes.regions r.child) e ∙ end_none (next_of (region_row v)) v.sizes.regions;
      fits = rw blank-kids tt;
    }
