-- The test of the rows: what it says of each region in use, and that it says no more.
use Rattle.std.specs.Prelude.{◌≡◌, refl, Bool, false, ℕ, ◌-◌, ◌≤◌, ◌<◌, eqb, ltb}
use Rattle.std.proofs.Math.Bool.{true}
use Rattle.std.proofs.Common.{arith}
use borrow.Author.Tests.{eqb-true, eqb-false, ltb-true, leb-true, eq-eqb, ne_eqb, lt-ltb, le-leb}
use Rattle.std.proofs.Math.ListN.{get_or-eq_default}
use Rattle.base.specs.Cases.{lt, ge, cmp, holds, fails, test}
use Rattle.base.specs.Tests.{both, both_true, true-false, all-at, at_all}
use Rattle.rights.specs.Rights.{allowed}
use Rattle.model.specs.State.{Word, HashWords}
use Rattle.tables.specs.declared.RegionCapa.{RegionCapa}
use Rattle.tables.specs.Tables.{Tables, no_region, region_at}
use Rattle.arena.specs.Arena.{is_free_b}
use Rattle.decoded.specs.Shape.{Shaped}
use Rattle.decoded.specs.Decode.Read.{taken, hash_from}
use Rattle.decoded.specs.Canonical.WellFormed.{region_row, hash_row}
use Rattle.decoded.specs.Canonical.Pools.{taken-used, not_taken}
use Rattle.sound_tree.specs.Tree.{rights_fit, in_parent, place_fits, row_fits, region_fits, slot_fits, rows_hold}

-- ---- slots in use

pub record Used (v : Tables) (i : ℕ) : Type 0 where
  pub below : i < v.sizes.regions
  pub is : taken v.region_pool i ≡ true

-- A slot is in use, or its row is all zero: so is a free row, and what lies outside the table.
pub data Slot (v : Tables) (i : ℕ) : Type 0 where
  used : Used v i → Slot v i
  blank : region_row v i ≡ no_region → Slot v i

-- What the test of the pools has found already: free rows are zero.
pub record PoolClauses (v : Tables) : Type 0 where
  pub regions_free : (i : ℕ) → i < v.sizes.regions → taken v.region_pool i ≡ false → region_row v i ≡ no_region

-- What the words are is no question of a test.
abbrev pub RegionWords : Tables → Type 0
RegionWords v = (i : ℕ) → Word (region_row v i).start × Word (region_row v i).end × HashWords (hash_from (hash_row v i))

pub slot : (v : Tables) → Shaped v → PoolClauses v → (i : ℕ) → Slot v i
slot v s h i = elim (cmp i v.sizes.regions) [
  | lt b ↦ elim (test (taken v.region_pool i)) [ holds t ↦ used (record { below = b; is = t }) | fails t ↦ blank (h.regions_free i b t) ]
  | ge b ↦ blank (get_or-eq_default v.regions no_region (omega (arith, s.regions)))
]

-- ---- one row

-- the parent h of a region g
pub record Inside (g h : RegionCapa) : Type 0 where
  pub low : h.start ≤ g.start
  pub high : g.end ≤ h.end
  pub byte : h.rights < 256
  pub rights : allowed h.rights g.rights ≡ true

pub record RowFacts (v : Tables) (i : ℕ) : Type 0 where
  pub kind_low : 1 ≤ (region_row v i).kind
  pub kind_high : (region_row v i).kind ≤ 3
  pub owned : 0 < (region_row v i).owner
  pub nonempty : (region_row v i).start < (region_row v i).end
  pub rights_byte : (region_row v i).rights < 256
  pub root_parent : (region_row v i).kind ≡ 1 → (region_row v i).parent ≡ 0
  pub root_next : (region_row v i).kind ≡ 1 → (region_row v i).next ≡ 0
  pub child_parent : 2 ≤ (region_row v i).kind → 0 < (region_row v i).parent
  pub inside : 2 ≤ (region_row v i).kind → Inside (region_row v i) (region_row v ((region_row v i).parent - 1))

rights-facts : (p c : ℕ) → rights_fit p c ≡ true → (p < 256) × (c < 256) × (allowed p c ≡ true)
unfolding rights_fit
rights-facts p c h = elim (test (ltb p 256)) [
  | holds a ↦ elim (test (ltb c 256)) [
    | holds b ↦ (ltb-true p 256 a, ltb-true c 256 b, rw (a, b) at h)
    | fails b ↦ absurd (true-false (rw (a, b) at h) refl)
  ]
  | fails a ↦ absurd (true-false (rw a at h) refl)
]

facts-rights : (p c : ℕ) → p < 256 → c < 256 → allowed p c ≡ true → rights_fit p c ≡ true
unfolding rights_fit
facts-rights p c a b e = rw (lt-ltb p 256 a, lt-ltb c 256 b) e

inside-facts : (g h : RegionCapa) → in_parent g h ≡ true → Inside g h
unfolding in_parent
inside-facts g h e =
    let a = both_true _ _ e in
    let b = both_true _ _ a.0 in
    let r = rights-facts h.rights g.rights a.1 in
    record { low = leb-true _ _ b.0; high = leb-true _ _ b.1; byte = r.0; rights = r.2 }

facts-inside : (g h : RegionCapa) → g.rights < 256 → Inside g h → in_parent g h ≡ true
unfolding in_parent
facts-inside g h b i = rw (le-leb _ _ i.low, le-leb _ _ i.high) (facts-rights h.rights g.rights i.byte b i.rights)

root-facts : (g h : RegionCapa) → place_fits g h ≡ true → g.kind ≡ 1 → (g.parent ≡ 0) × (g.next ≡ 0)
unfolding place_fits
root-facts g h e k = let a = both_true (eqb g.parent 0) (eqb g.next 0) (rw (eq-eqb g.kind 1 k) at e) in (eqb-true _ _ a.0, eqb-true _ _ a.1)

child-facts : (g h : RegionCapa) → place_fits g h ≡ true → 2 ≤ g.kind → (0 < g.parent) × Inside g h
unfolding place_fits
child-facts g h e k = let a = both_true (ltb 0 g.parent) (in_parent g h) (rw (ne_eqb g.kind 1 (λ z. omega arith)) at e) in (ltb-true _ _ a.0, inside-facts g h a.1)

fits-facts : (g : RegionCapa) → row_fits g ≡ true → (1 ≤ g.kind) × (g.kind ≤ 3) × (0 < g.owner) × (g.start < g.end) × (g.rights < 256)
unfolding row_fits
fits-facts g e =
    let a = both_true _ _ e in
    let k = both_true _ _ a.0 in
    let b = both_true _ _ a.1 in
    let c = both_true _ _ b.1 in
    (leb-true _ _ k.0, leb-true _ _ k.1, ltb-true _ _ b.0, ltb-true _ _ c.0, ltb-true _ _ c.1)

-- what the test asks of slot i
abbrev fits : Tables → ℕ → Bool
fits v i = slot_fits v.region_pool.links (region_at v) i

module _ (v : Tables) (i : ℕ) where
  abbrev own : RegionCapa
  own = region_row v i

  abbrev up : RegionCapa
  up = region_row v (own.parent - 1)

  row-facts : Used v i → fits v i ≡ true → RowFacts v i
  unfolding slot_fits region_fits region_at is_free_b
  row-facts u e =
      let f : both (row_fits own) (place_fits own up) ≡ true = rw (taken-used v.region_pool i u.is) at e in
      let a = both_true (row_fits own) (place_fits own up) f in
      let b = fits-facts own a.0 in
      record {
        kind_low = b.0;
        kind_high = b.1;
        owned = b.2;
        nonempty = b.3;
        rights_byte = b.4;
        root_parent = λ k. (root-facts own up a.1 k).0;
        root_next = λ k. (root-facts own up a.1 k).1;
        child_parent = λ k. (child-facts own up a.1 k).0;
        inside = λ k. (child-facts own up a.1 k).1;
      }

  place-fits : RowFacts v i → place_fits own up ≡ true
  unfolding place_fits
  place-fits f = elim (test (eqb own.kind 1)) [
    | holds k ↦ rw (k, eq-eqb _ _ (f.root_parent (eqb-true _ _ k)), eq-eqb _ _ (f.root_next (eqb-true _ _ k)))
    | fails k ↦
        let c = two own.kind (eqb-false own.kind 1 k) f.kind_low in
        rw (k, lt-ltb _ _ (f.child_parent c)) (facts-inside own up f.rights_byte (f.inside c))
  ]
    where
      two : (k : ℕ) → (k ≡ 1 → ⊥) → 1 ≤ k → 2 ≤ k
      two k ne h = elim (cmp k 2) [ lt u ↦ absurd (ne (omega arith)) | ge u ↦ u ]

  facts-row : (Used v i → RowFacts v i) → i < v.sizes.regions → fits v i ≡ true
  unfolding slot_fits region_fits region_at row_fits is_free_b
  facts-row h b = elim (test (taken v.region_pool i)) [
    | fails t ↦ rw (not_taken v.region_pool i t)
    | holds t ↦
        let f = h (record { below = b; is = t }) in
        rw (taken-used v.region_pool i t, le-leb _ _ f.kind_low, le-leb _ _ f.kind_high, lt-ltb _ _ f.owned, lt-ltb _ _ f.nonempty, lt-ltb _ _ f.rights_byte) (place-fits f)
  ]

-- ---- all rows

module _ (v : Tables) where
  pub rows-facts : rows_hold v ≡ true → (i : ℕ) → Used v i → RowFacts v i
  unfolding rows_hold
  rows-facts e i u = row-facts v i u (all-at (fits v) 0 v.sizes.regions e i (omega arith) (omega (arith, u.below)))

  pub facts-rows : ((i : ℕ) → Used v i → RowFacts v i) → rows_hold v ≡ true
  unfolding rows_hold
  facts-rows h = at_all (fits v) 0 v.sizes.regions (λ i a b. facts-row v i (h i) (omega arith))
