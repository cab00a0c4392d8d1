-- A region's child list changes: its own row has the first child, and each child's row the child after it.
use Rattle.std.specs.Prelude.{◌≡◌, refl, ◌≢◌, ℕ, ◌<◌, List, [], ◌∷◌, ◌++◌, eqb, length}
use Rattle.std.proofs.Math.Path.{sym, ap}
use Rattle.std.proofs.Common.{◌∙◌, arith, get_or-set_same, get_or-set_other}
use Rattle.std.proofs.Math.Option.{Option, none, some}
use Rattle.std.proofs.Math.Decide.{ℕ_discrete}
use Rattle.std.proofs.Math.ListN.{set}
use Rattle.model.specs.Lists.{count_if, at_slot, In, first_of, after_in}
use Rattle.model.specs.State as state
use Rattle.model.specs.State.{State, Kind, Root, Alias, Carve, parent_of, region_in, with_children, put_region}
use Rattle.model.specs.Layout.{link, siblings}
use Rattle.laws.specs.Tree.Slots.{in-length}
use Rattle.tables.specs.declared.RegionCapa.{RegionCapa}
use Rattle.tables.specs.Tables.{with_regions, with_hashes, with_region, with_next, with_child}
use Rattle.decoded.specs.Rows.{set-two}
use Rattle.decoded.specs.Links.{after-top, after-under, after-out, after-behind, first-before, after-before}
use Rattle.decoded.specs.Tree.Regions.{children_in, hashes-kept}
use Rattle.decoded.specs.Tables.{region_for, slot_hash, regions_for, tables_of}

-- ---- rows

-- the row of a slot
abbrev pub row_in : List (Option state.Region) → ℕ → RegionCapa
row_in rs j = region_for rs j (at_slot rs j)

-- the regions where region g, in slot p, has the child list cs
abbrev pub regions_with : List (Option state.Region) → ℕ → state.Region → List ℕ → List (Option state.Region)
regions_with rs p g cs = set rs p (some (with_children cs g))

pub sibling-list : (rs : List (Option state.Region)) (k : Kind) (p : ℕ) → parent_of k ≡ some p → siblings rs k ≡ (region_in rs p).children
sibling-list rs k p h = ap (λ (o : Option ℕ). elim o [ none ↦ [] | some m ↦ (region_in rs m).children ]) h

module _ (rs : List (Option state.Region)) (p : ℕ) (g : state.Region) (at : In rs p g) (cs : List ℕ) where
  own-list : (region_in (regions_with rs p g cs) p).children ≡ cs
  own-list = ap children_in (get_or-set_same rs p (some (with_children cs g)) none (in-length rs p g at))

  list-kept : (m : ℕ) → m ≢ p → (region_in (regions_with rs p g cs) m).children ≡ (region_in rs m).children
  list-kept m ne = ap children_in (get_or-set_other rs p m (some (with_children cs g)) none ne)

  -- the slot after j in the list of parent m
  after-in : (m j : ℕ) → after_in cs j ≡ after_in g.children j → after_in (region_in (regions_with rs p g cs) m).children j ≡ after_in (region_in rs m).children j
  after-in m j h = elim (ℕ_discrete m p) [
    | yes e ↦ rw e (ap (λ l. after_in l j) own-list ∙ h ∙ ap (λ o. after_in (children_in o) j) (sym at))
    | no ne ↦ ap (λ l. after_in l j) (list-kept m ne)
  ]

  after_kept : (k : Kind) (j : ℕ) → after_in cs j ≡ after_in g.children j → after_in (siblings (regions_with rs p g cs) k) j ≡ after_in (siblings rs k) j
  after_kept Root j h = refl
  after_kept (Alias m) j h = after-in m j h
  after_kept (Carve m) j h = after-in m j h

  row_kept : (j : ℕ) (o : Option state.Region) → after_in cs j ≡ after_in g.children j → region_for (regions_with rs p g cs) j o ≡ region_for rs j o
  row_kept j none h = refl
  row_kept j (some x) h = ap (λ a. with_next (region_for rs j (some x)) (link a)) (after_kept x.kind j h)

  other_row : (j : ℕ) → j ≢ p → after_in cs j ≡ after_in g.children j → row_in (regions_with rs p g cs) j ≡ row_in rs j
  other_row j ne h = ap (region_for (regions_with rs p g cs) j) (get_or-set_other rs p j (some (with_children cs g)) none ne) ∙ row_kept j (at_slot rs j) h

  own_row : after_in cs p ≡ after_in g.children p → row_in (regions_with rs p g cs) p ≡ with_child (row_in rs p) (link (first_of cs))
  own_row h =
      ap (region_for (regions_with rs p g cs) p) (get_or-set_same rs p (some (with_children cs g)) none (in-length rs p g at))
      ∙ row_kept p (some (with_children cs g)) h
      ∙ ap (λ o. with_child (region_for rs p o) (link (first_of cs))) (sym at)

  child-row : (j : ℕ) (x : state.Region) → j ≢ p → In rs j x → parent_of x.kind ≡ some p → row_in (regions_with rs p g cs) j ≡ with_next (row_in rs j) (link (after_in cs j))
  child-row j x ne e h =
      ap (region_for (regions_with rs p g cs) j) (get_or-set_other rs p j (some (with_children cs g)) none ne ∙ e)
      ∙ ap (λ l. with_next (region_for rs j (some x)) (link (after_in l j))) (sibling-list (regions_with rs p g cs) x.kind p h ∙ own-list)
      ∙ ap (λ o. with_next (region_for rs j o) (link (after_in cs j))) (sym e)

  -- with the same first child
  own-row-kept : after_in cs p ≡ after_in g.children p → first_of cs ≡ first_of g.children → row_in (regions_with rs p g cs) p ≡ row_in rs p
  own-row-kept h e = own_row h ∙ ap (λ f. with_child (row_in rs p) (link f)) e ∙ ap (λ o. with_child (region_for rs p o) (link (first_of g.children))) at ∙ ap (region_for rs p) (sym at)

  -- every row but two children's, where the first child and the slots after the others are the same
  rows-kept : (i j : ℕ) → i ≢ p → j ≢ p → first_of cs ≡ first_of g.children → ((k : ℕ) → k ≢ i → k ≢ j → after_in cs k ≡ after_in g.children k)
      → (k : ℕ) → k ≢ i → k ≢ j → row_in (regions_with rs p g cs) k ≡ row_in rs k
  rows-kept i j ni nj f h k a b = elim (ℕ_discrete k p) [
    | yes z ↦ ap (row_in (regions_with rs p g cs)) z ∙ own-row-kept (h p (λ w. ni (sym w)) (λ w. nj (sym w))) f ∙ ap (row_in rs) (sym z)
    | no ne ↦ other_row k ne (h k a b)
  ]

  -- rows i and j change
  two-rows : (n i j : ℕ) (x y : RegionCapa) → i < n → j < n → row_in (regions_with rs p g cs) i ≡ x → row_in (regions_with rs p g cs) j ≡ y → ((k : ℕ) → k ≢ i → k ≢ j → row_in (regions_with rs p g cs) k ≡ row_in rs k)
      → regions_for n (regions_with rs p g cs) ≡ set (set (regions_for n rs) j y) i x
  unfolding regions_for
  two-rows n i j x y hi hj ei ej o =
      sym (set-two (row_in rs) (row_in (regions_with rs p g cs)) n i j hi hj o) ∙ ap (λ z. set (set (regions_for n rs) j z) i (row_in (regions_with rs p g cs) i)) ej ∙ ap (λ z. set (set (regions_for n rs) j y) i z) ei

-- ---- the tables

module _ (s : State) (long : length s.regions ≡ s.sizes.regions) (p : ℕ) (g : state.Region) (at : In s.regions p g) where
  below : (j : ℕ) (x : state.Region) → In s.regions j x → j < s.sizes.regions
  below j x e = omega (arith, in-length s.regions j x e, long)

  -- the new list is cs
  put : (cs : List ℕ) (i j : ℕ) (x y : RegionCapa) → regions_for s.sizes.regions (regions_with s.regions p g cs) ≡ set (set (regions_for s.sizes.regions s.regions) j y) i x
      → tables_of (put_region p (with_children cs g) s) ≡ with_region (with_region (tables_of s) j y) i x
  unfolding tables_of with_region with_regions with_hashes
  put cs i j x y e =
      let h = hashes-kept s.regions s.sizes.regions p (some (with_children cs g)) (ap slot_hash (sym at)) in
      λ t. with_hashes (with_regions (tables_of s) (e t)) (h t)

  -- i is a child of p
  module _ (i : ℕ) (x : state.Region) (ei : In s.regions i x) (hi : parent_of x.kind ≡ some p) (ni : i ≢ p) where
    next_row : (cs : List ℕ) (o : Option ℕ) → after_in cs i ≡ o → row_in (regions_with s.regions p g cs) i ≡ with_next (row_in s.regions i) (link o)
    next_row cs o e = child-row s.regions p g at cs i x ni ei hi ∙ ap (λ f. with_next (row_in s.regions i) (link f)) e

    -- so is c, where i stands behind it
    module _ (c : ℕ) (y : state.Region) (ec : In s.regions c y) (hc : parent_of y.kind ≡ some p) (nc : c ≢ p) (b a : List ℕ) (oc : count_if (eqb c) b ≡ 0) (oi : count_if (eqb i) b ≡ 0) (ne : i ≢ c) where
      next-row-of : (cs : List ℕ) (o : Option ℕ) → after_in cs c ≡ o → row_in (regions_with s.regions p g cs) c ≡ with_next (row_in s.regions c) (link o)
      next-row-of cs o e = child-row s.regions p g at cs c y nc ec hc ∙ ap (λ f. with_next (row_in s.regions c) (link f)) e

      same_after : (k : ℕ) → k ≢ c → k ≢ i → after_in (b ++ c ∷ i ∷ a) k ≡ after_in (b ++ c ∷ a) k
      same_after k nk mk = after-before k b (c ∷ i ∷ a) (c ∷ a) refl (after-under c k (i ∷ a) nk ∙ after-under i k a mk ∙ sym (after-under c k a nk))

      pub child-added : g.children ≡ b ++ c ∷ a
          → tables_of (put_region p (with_children (b ++ c ∷ i ∷ a) g) s) ≡ with_region (with_region (tables_of s) i (with_next (row_in s.regions i) (link (first_of a)))) c (with_next (row_in s.regions c) (link (some i)))
      child-added e =
          let cs = b ++ c ∷ i ∷ a in
          put cs c i _ _
          (two-rows s.regions p g at cs s.sizes.regions c i _ _ (below c y ec) (below i x ei)
          (next-row-of cs (some i) (after-behind c b (c ∷ i ∷ a) oc ∙ after-top c (i ∷ a)))
          (next_row cs (first_of a) (after-behind i b (c ∷ i ∷ a) oi ∙ after-under c i (i ∷ a) ne ∙ after-top i a))
          (rows-kept s.regions p g at cs c i nc ni (first-before b (c ∷ i ∷ a) (c ∷ a) refl ∙ ap first_of (sym e)) (λ k nk mk. same_after k nk mk ∙ ap (λ l. after_in l k) (sym e))))

      pub child-removed : g.children ≡ b ++ c ∷ i ∷ a → count_if (eqb i) a ≡ 0
          → tables_of (put_region p (with_children (b ++ c ∷ a) g) s) ≡ with_region (with_region (tables_of s) i (with_next (row_in s.regions i) 0)) c (with_next (row_in s.regions c) (link (first_of a)))
      child-removed e oa =
          let cs = b ++ c ∷ a in
          put cs c i _ _
          (two-rows s.regions p g at cs s.sizes.regions c i _ _ (below c y ec) (below i x ei)
          (next-row-of cs (first_of a) (after-behind c b (c ∷ a) oc ∙ after-top c a))
          (next_row cs none (after-behind i b (c ∷ a) oi ∙ after-under c i a ne ∙ after-out a i oa))
          (rows-kept s.regions p g at cs c i nc ni (first-before b (c ∷ a) (c ∷ i ∷ a) refl ∙ ap first_of (sym e)) (λ k nk mk. sym (same_after k nk mk) ∙ ap (λ l. after_in l k) (sym e))))

    -- i is the first
    module _ (a : List ℕ) where
      pub first-added : g.children ≡ a → tables_of (put_region p (with_children (i ∷ a) g) s) ≡ with_region (with_region (tables_of s) i (with_next (row_in s.regions i) (link (first_of a)))) p (with_child (row_in s.regions p) (link (some i)))
      first-added e =
          let same : (k : ℕ) → k ≢ i → after_in (i ∷ a) k ≡ after_in g.children k = λ k nk. after-under i k a nk ∙ ap (λ l. after_in l k) (sym e) in
          put (i ∷ a) p i _ _
          (two-rows s.regions p g at (i ∷ a) s.sizes.regions p i _ _ (below p g at) (below i x ei)
          (own_row s.regions p g at (i ∷ a) (same p (λ w. ni (sym w))))
          (next_row (i ∷ a) (first_of a) (after-top i a))
          (λ k nk mk. other_row s.regions p g at (i ∷ a) k nk (same k mk)))

      pub first-removed : g.children ≡ i ∷ a → count_if (eqb i) a ≡ 0 → tables_of (put_region p (with_children a g) s) ≡ with_region (with_region (tables_of s) i (with_next (row_in s.regions i) 0)) p (with_child (row_in s.regions p) (link (first_of a)))
      first-removed e oi =
          let same : (k : ℕ) → k ≢ i → after_in a k ≡ after_in g.children k = λ k nk. sym (ap (λ l. after_in l k) e ∙ after-under i k a nk) in
          put a p i _ _
          (two-rows s.regions p g at a s.sizes.regions p i _ _ (below p g at) (below i x ei)
          (own_row s.regions p g at a (same p (λ w. ni (sym w))))
          (next_row a none (after-out a i oi))
          (λ k nk mk. other_row s.regions p g at a k nk (same k mk)))
