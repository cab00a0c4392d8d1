-- A search of a child list, in the tables of a state. Each child's row links to the child after it, so the search walks the list: it stops before the
-- first child that passes the test, and the place that it finds cuts the list there.
use Rattle.std.specs.Prelude.{◌≡◌, Bool, List, [], ◌∷◌, ◌++◌, eqb, length}
use Rattle.std.proofs.Math.Path.{refl, ap}
use Rattle.std.proofs.Common.{◌∙◌}
use Prim.Native.Nat.{ℕ, zero, suc, ◌-◌, ◌≤◌, ◌<◌}
use Rattle.std.proofs.Math.Option.{Option, none, some}
use native.Mathlib.Omega.{arith}
use borrow.Author.Tests.{ne_eqb}
use Rattle.base.specs.Cases.{lt, ge, cmp, holds, fails, test, pick}
use Rattle.model.specs.Lists.{count_if, at_slot, In, first_of, after_in}
use Rattle.model.specs.State as state
use Rattle.model.specs.State.{State, parent_of}
use Rattle.model.specs.Layout.{link}
use Rattle.laws.specs.Stack.{one, stack-length}
use Rattle.laws.specs.Tree.Sum.{sum-le, sum-each}
use Rattle.laws.specs.Tree.Slots.{in-length}
use Rattle.laws.specs.Tree.Shares.{child}
use Rattle.laws.specs.Tree.Facts.{Regions, listing, own, child-le, has-parent}
use Rattle.tables.specs.declared.RegionCapa.{RegionCapa}
use Rattle.tables.specs.Tables.{Tables, no_region, region_at}
use Rattle.children.specs.declared.Place.{Place}
use Rattle.children.specs.declared.Search.{Search}
use Rattle.children.specs.Children.{ends_b, find_from, find}
use Rattle.decoded.specs.Rows.{get_or-up}
use Rattle.decoded.specs.Links.{after-top, after-under}
use Rattle.decoded.specs.Tree.Regions.{children_in, region-read}
use Rattle.decoded.specs.Tree.Children.{row_in, sibling-list}
use Rattle.decoded.specs.Tables.{regions_for, tables_of}

-- ---- a list cut before the first that passes the test

abbrev pub before : (ℕ → Bool) → List ℕ → List ℕ
before f [] = []
before f (c ∷ cs) = pick (f c) [] (c ∷ before f cs)

abbrev pub rest : (ℕ → Bool) → List ℕ → List ℕ
rest f [] = []
rest f (c ∷ cs) = pick (f c) (c ∷ cs) (rest f cs)

pub cut-is : (f : ℕ → Bool) (cs : List ℕ) → cs ≡ before f cs ++ rest f cs
cut-is f [] = refl
cut-is f (c ∷ cs) = elim (test (f c)) [ holds e ↦ rw e | fails e ↦ rw e (ap (λ (l : List ℕ). c ∷ l) (cut-is f cs)) ]

-- the link of the last of a list, and k where the list is empty
abbrev pub last_link : ℕ → List ℕ → ℕ
last_link k [] = k
last_link k (c ∷ cs) = last_link (suc c) cs

-- the place between two parts of a list
abbrev pub place_of : ℕ → List ℕ → List ℕ → Place
place_of k b a = record { prev = last_link k b; at = link (first_of a) }

-- each row links to the next
abbrev pub Chained : Tables → List ℕ → Type 0
Chained t [] = Unit {0}
Chained t (c ∷ cs) = ((region_at t c).next ≡ link (first_of cs)) × Chained t cs

module _ (w : Search) (t : Tables) where
  abbrev pub ends : ℕ → Bool
  ends c = ends_b w (suc c) (region_at t c)

  -- at a child
  at-child : (n k x : ℕ) → find_from w t (suc n) (record { prev = k; at = suc x }) ≡ pick (ends x) (record { prev = k; at = suc x }) (find_from w t n (record { prev = suc x; at = (region_at t x).next }))
  unfolding find_from
  at-child n k x = let z : suc x - 1 ≡ x = omega arith in rw (find_from, ne_eqb (suc x) 0 (λ e. omega arith), z)

  at-end : (n k : ℕ) → find_from w t n (record { prev = k; at = 0 }) ≡ record { prev = k; at = 0 }
  unfolding find_from
  at-end zero k = refl
  at-end (suc n) k = refl

  pub find-from : (n k : ℕ) (cs : List ℕ) → length cs ≤ n → Chained t cs → find_from w t n (record { prev = k; at = link (first_of cs) }) ≡ place_of k (before ends cs) (rest ends cs)
  find-from n k [] h c = at-end n k
  find-from zero k (x ∷ cs) h c = absurd (omega arith)
  find-from (suc n) k (x ∷ cs) h c = at-child n k x ∙ elim (test (ends x)) [ holds e ↦ rw e | fails e ↦ rw (e, c.0) (find-from n (suc x) cs (omega arith) c.1) ]

-- ---- the children of a region

-- each child of region p is live and under it, and is there once; p is not among them
pub record Children (rs : List (Option state.Region)) (p : ℕ) (cs : List ℕ) : Type 0 where
  pub under : (c : ℕ) → 0 < count_if (eqb c) cs → (x : state.Region) × In rs c x × (parent_of x.kind ≡ some p)
  pub once : (c : ℕ) → count_if (eqb c) cs ≤ 1
  pub other : count_if (eqb p) cs ≡ 0

pub regions-children : (rs : List (Option state.Region)) → Regions rs → (p : ℕ) (g : state.Region) → In rs p g → Children rs p g.children
regions-children rs z p g e = record {
  under = λ c h. go c (at_slot rs c) refl (omega (arith, listing rs z p g e c));
  once = λ c. omega (arith, listing rs z p g e c, child-le (at_slot rs c) p);
  other = listing rs z p g e p ∙ ap (λ (o : Option state.Region). child o p) e ∙ own rs z p g e;
}
  where
    go : (c : ℕ) (o : Option state.Region) → at_slot rs c ≡ o → 0 < child o p → (x : state.Region) × In rs c x × (parent_of x.kind ≡ some p)
    go c none q h = absurd (omega arith)
    go c (some x) q h = (x, q, has-parent x.kind p h)

-- there are no more children than slots
pub children-few : (rs : List (Option state.Region)) (p : ℕ) (cs : List ℕ) → Children rs p cs → length cs ≤ length rs
children-few rs p cs k =
    omega (
      arith,
      stack-length (length rs) cs (λ c h. elim (cmp 0 (count_if (eqb c) cs)) [ lt u ↦ let (x, e, q) = k.under c u in absurd (omega (arith, in-length rs c x e)) | ge u ↦ omega arith ]),
      sum-le (λ c. count_if (eqb c) cs) (λ c. 1) (length rs) k.once,
      sum-each (length rs),
    )

-- rows that link by the list are chained
chained : (t : Tables) (cs : List ℕ) → ((c : ℕ) → count_if (eqb c) cs ≤ 1) → ((c : ℕ) → 0 < count_if (eqb c) cs → (region_at t c).next ≡ link (after_in cs c)) → Chained t cs
chained t [] o h = tt
chained t (c ∷ cs) o h = (
  h c (omega (arith, one c c refl)) ∙ ap link (after-top c cs),
  chained t cs (λ d. omega (arith, o d)) (λ d k. h d (omega arith) ∙ ap link (after-under c d cs (λ e. omega (arith, o d, one d c e)))),
)

module _ (s : State) (long : length s.regions ≡ s.sizes.regions) where
  pub row_read : (j : ℕ) → j < s.sizes.regions → region_at (tables_of s) j ≡ row_in s.regions j
  unfolding tables_of region_at regions_for
  row_read j h = get_or-up (row_in s.regions) s.sizes.regions j no_region h

  module _ (p : ℕ) (g : state.Region) (at : In s.regions p g) (children : Children s.regions p g.children) where
    pub next-of : (c : ℕ) → 0 < count_if (eqb c) g.children → (region_at (tables_of s) c).next ≡ link (after_in g.children c)
    next-of c h =
        let (x, e, q) = children.under c h in
        ap (λ (r : RegionCapa). r.next) (region-read s long c x e)
        ∙ ap (λ (l : List ℕ). link (after_in l c)) (sibling-list s.regions x.kind p q ∙ ap children_in at)

    pub children-chained : Chained (tables_of s) g.children
    children-chained = chained (tables_of s) g.children children.once next-of

    enough : length g.children ≤ (tables_of s).sizes.regions
    unfolding tables_of
    enough = omega (arith, children-few s.regions p g.children children, long)

    pub find-is : (w : Search) → find w (tables_of s) p ≡ place_of 0 (before (ends w (tables_of s)) g.children) (rest (ends w (tables_of s)) g.children)
    unfolding find
    find-is w =
        ap (λ (r : RegionCapa). find_from w (tables_of s) (tables_of s).sizes.regions (record { prev = 0; at = r.child })) (region-read s long p g at)
        ∙ find-from w (tables_of s) (tables_of s).sizes.regions 0 g.children enough children-chained
