-- From the clauses to what the test asks: of the rows, of each child list, of the number of members of all lists, of the ways up.
use Rattle.std.specs.Prelude.{◌≡◌, refl, ◌≢◌, Bool, true, false, List, map, ℕ, zero, suc, ◌+◌, ◌-◌, ◌≤◌, ◌<◌, T, eqb}
use Rattle.std.proofs.Common.{sym, ap, subst, ◌∙◌, arith, lt-ltb, le-ltb}
use Rattle.std.proofs.Math.Option.{Option, some}
use Rattle.base.specs.Cases.{lt, ge, cmp, pick}
use Rattle.base.specs.Tests.{is_true}
use Rattle.model.specs.Lists.{count_if}
use Rattle.model.specs.State as state
use Rattle.model.specs.State.{parent_of}
use Rattle.model.specs.Sound.{RegionSound, Ordered, OutsideSound}
use Rattle.laws.specs.Test.Paths.{rooted, ok-rooted}
use Rattle.laws.specs.Tree.Sum.{sum, sum_same, sum-zero, sum-at}
use Rattle.laws.specs.Tree.Slots.{in-each}
use Rattle.laws.specs.Tree.Facts.{Regions, no-overlap}
use Rattle.tables.specs.declared.RegionCapa.{RegionCapa}
use Rattle.tables.specs.Tables.{Tables}
use Rattle.decoded.specs.Shape.{Shaped}
use Rattle.decoded.specs.Decode.Read.{kind_from, region_read, regions_from, state_of}
use Rattle.decoded.specs.Decode.Regions.{child-once, member}
use Rattle.decoded.specs.Canonical.WellFormed.{OutsideWellFormed, OutsideWalked, region_row}
use Rattle.decoded.specs.Canonical.Sound.{parent_is, outside-walked}
use Rattle.decoded.specs.Canonical.WellFormed.{OutsideWellFormed, OutsideWalked, region_row}
use Rattle.decoded.specs.Canonical.Sound.{parent_is, outside-walked}
use Rattle.decoded.specs.Canonical.Pools.{regions-many}
use Rattle.sound_tree.specs.Tree.{no_run, floor_of, is_child, climb_from}
use Rattle.exact_tree.specs.Walks.{Behind, Sorted, pairs-fit, pairs_of}
use Rattle.exact_tree.specs.Lists.{kids, many, Listed, uses, many-uses, tells, one-t, one-f}
use Rattle.exact_tree.specs.Rows.{Used, used, blank, PoolClauses, slot, Inside, RowFacts}
use Rattle.exact_tree.specs.Roots.{climb-low, climb-up}
use Rattle.exact_tree.specs.Read.{parent-link, kind-carve, read-in, in-read, same-starts, blank-kids, blank-listed}

floor-none : (r : RegionCapa) → floor_of no_run r ≡ 0
unfolding floor_of
floor-none r = same (eqb r.kind 3)
  where
    same : (b : Bool) → ◌≡◌ {A = ℕ} (pick b 0 0) 0
    same true = refl
    same false = refl

-- of two ranges apart the one that does not start later ends before the other
first : (a b c d : ℕ) → a ≤ c → c < d → (c < b → d ≤ a) → b ≤ c
first a b c d o n f = elim (cmp c b) [ lt u ↦ absurd (omega (arith, f u)) | ge u ↦ u ]

module _ (v : Tables) (s : Shaped v) (t : OutsideWellFormed v) (h : OutsideSound (state_of v)) where
  abbrev row : ℕ → RegionCapa
  row = region_row v

  abbrev size : ℕ
  size = v.sizes.regions

  abbrev rs : List (Option state.Region)
  rs = regions_from v

  sound : Regions rs
  unfolding state_of
  sound = h.regions

  at : (i : ℕ) → Used v i → RegionSound rs i (region_read v i)
  at i u = sound i (region_read v i) (read-in v i u)

  walks : OutsideWalked v
  walks = outside-walked v s h

  pools : PoolClauses v
  pools = record { regions_free = t.regions_free }

  -- ---- rows

  parent-used : (i p : ℕ) → Used v i → 2 ≤ (row i).kind → (row i).parent ≡ suc p → Used v p
  parent-used i p u k e = let w = walks.parent_taken i p u.below u.is k e in record { below = w.0; is = w.1 }

  parent-at : (i p : ℕ) → 2 ≤ (row i).kind → (row i).parent ≡ suc p → parent_of (region_read v i).kind ≡ some p
  parent-at i p k e = ap (λ l. parent_of (kind_from (row i).kind l)) e ∙ parent_is (row i).kind p k

  inside-parent : (i p : ℕ) → Used v i → 2 ≤ (row i).kind → (row i).parent ≡ suc p → Inside (row i) (row p)
  inside-parent i p u k e =
      let q = parent-used i p u k e in
      let w = (at i u).inside p (region_read v p) (parent-at i p k e) (read-in v p q) in
      record { low = w.0; high = w.1; byte = (at p q).rights_byte; rights = is_true ((at i u).rights_inside p (region_read v p) (parent-at i p k e) (read-in v p q)) }

  pub rows_of : (i : ℕ) → Used v i → RowFacts v i
  rows_of i u =
      let f = t.regions_used i u.below u.is in
      record {
        kind_low = f.kind_low;
        kind_high = f.kind_high;
        owned = f.owned;
        nonempty = (at i u).nonempty;
        rights_byte = (at i u).rights_byte;
        root_parent = f.root_parent;
        root_next = f.root_next;
        child_parent = f.child_parent;
        inside = λ k. inside-parent i ((row i).parent - 1) u k (omega (arith, f.child_parent k));
      }

  -- ---- one list

  -- a member of the list of region k
  module _ (k : ℕ) (u : Used v k) where
    child-used : (c : ℕ) → 0 < count_if (eqb c) (kids row size k) → Used v c
    child-used c o = let m = member rs sound k (region_read v k) (read-in v k u) c o in (in-read v c m.0 m.1).0

    child-link : (c : ℕ) → 0 < count_if (eqb c) (kids row size k) → (2 ≤ (row c).kind) × ((row c).parent ≡ suc k)
    child-link c o =
        let m = member rs sound k (region_read v k) (read-in v k u) c o in
        let r = in-read v c m.0 m.1 in
        parent-link (row c).kind (row c).parent k (rows_of c r.0).child_parent (ap (λ (x : state.Region). parent_of x.kind) r.1 ∙ m.2)

    ordered : Ordered (map (λ c. (row c).start) (kids row size k))
    ordered = rw (same-starts v (kids row size k) (in-each (Used v) (kids row size k) child-used)) at (at k u).ordered

    -- what carves_apart says, for two children of which the first does not start later
    sorted : (c d : ℕ) → 0 < count_if (eqb c) (kids row size k) → 0 < count_if (eqb d) (kids row size k) → c ≢ d → (row c).start ≤ (row d).start → Sorted row c d
    sorted c d a b ne o =
        let uc = child-used c a in
        let ud = child-used d b in
        let lc = child-link c a in
        let ld = child-link d b in
        let same = parent-at c k lc.0 lc.1 ∙ sym (parent-at d k ld.0 ld.1) in
        record {
          starts = o;
          from_carve = λ q. first (row c).start (row c).end (row d).start (row d).end o (rows_of d ud).nonempty (no-overlap (region_read v c) (region_read v d) ((at c uc).carves_apart d (region_read v d) (read-in v d ud) ne (kind-carve (row c).kind (row c).parent q) same));
          to_carve = λ q. no-overlap (region_read v d) (region_read v c) ((at d ud).carves_apart c (region_read v c) (read-in v c uc) (λ e. ne (sym e)) (kind-carve (row d).kind (row d).parent q) (sym same)) (omega (arith, (rows_of d ud).nonempty));
        }

    fit : Listed row size k
    fit = record {
      ends = walks.children_end k u.below u.is;
      fits = pairs-fit row (k + 1) no_run (kids row size k)
          (in-each (Behind row no_run) (kids row size k) (λ d o. record { last = omega arith; floor = omega (arith, floor-none (row d)) }))
          (pairs_of row (kids row size k) ordered (child-once rs sound k (region_read v k) (read-in v k u)) sorted)
          (in-each (λ c. (row c).parent ≡ k + 1) (kids row size k) (λ c o. omega (arith, (child-link c o).1)));
    }

  pub listed : (k : ℕ) → Listed row size k
  listed k = elim (slot v s pools k) [ used u ↦ fit k u | blank e ↦ blank-listed v k e ]

  -- ---- all lists

  -- what is in a list is a child of its region
  in-link : (k i : ℕ) → 0 < count_if (eqb i) (kids row size k) → Used v i × (2 ≤ (row i).kind) × ((row i).parent ≡ suc k)
  in-link k i o = elim (slot v s pools k) [
    | used u ↦ let l = child-link k u i o in (child-used k u i o, l.0, l.1)
    | blank e ↦ absurd (omega (arith, ap (count_if (eqb i)) (blank-kids v k e)))
  ]

  no-use : (k i : ℕ) → (((row i).parent ≡ suc k → 2 ≤ (row i).kind → Used v i → ⊥)) → count_if (eqb i) (kids row size k) ≡ 0
  no-use k i f = elim (cmp 0 (count_if (eqb i) (kids row size k))) [
    | lt o ↦ let l = in-link k i o in absurd (f l.2 l.1 l.0)
    | ge o ↦ omega arith
  ]

  uses-of : (i : ℕ) → i < size → uses row size i ≡ tells (is_child row) i
  uses-of i b = elim (cmp 1 (row i).kind) [
    | ge k ↦
        sum_same (λ k. count_if (eqb i) (kids row size k)) (λ k. 0) size (λ j l. no-use j i (λ e c u. omega arith))
        ∙ sum-zero size ∙ sym (one-f (is_child row i) (le-ltb 1 (row i).kind k))
    | lt k ↦ elim (slot v s pools i) [
      | blank e ↦ absurd (omega (arith, ap (λ (r : RegionCapa). r.kind) e))
      | used u ↦
          let p = (row i).parent - 1 in
          let z : (row i).parent ≡ suc p = omega (arith, (rows_of i u).child_parent k) in
          let q = parent-used i p u k z in
          let o = walks.listed i p u.below u.is k z in
          let m = child-once rs sound p (region_read v p) (read-in v p q) i in
          sum-at (λ k. count_if (eqb i) (kids row size k)) size p q.below (λ j ne. no-use j i (λ e c w. ne (omega arith)))
          ∙ omega (arith, one-t (is_child row i) (lt-ltb 1 (row i).kind k))
    ]
  ]

  pub members : sum (many row size) size ≡ sum (tells (is_child row)) size
  members = many-uses row size (λ k b i o. no-use k i (λ e c u. omega (arith, u.below))) ∙ sum_same (uses row size) (tells (is_child row)) size uses-of

  -- ---- ways up

  climbs : (w : List ℕ) (n j : ℕ) → Used v j → T (rooted n rs j) → climb_from row w n j ≡ true
  climbs w zero j u r = absurd r
  climbs w (suc n) j u r = elim (cmp (row j).kind 2) [
    | lt k ↦ climb-low row w (suc n) j k (omega arith)
    | ge k ↦
        let p = (row j).parent - 1 in
        let z : (row j).parent ≡ suc p = omega (arith, (rows_of j u).child_parent k) in
        let m : parent_of (region_read v j).kind ≡ some p = parent-at j p k z in
        climb-up row w n j (climbs w n p (parent-used j p u k z) (rw (read-in v j u, m) at r))
  ]

  pub climb-any : (w : List ℕ) (j : ℕ) → j < size → climb_from row w size j ≡ true
  climb-any w j b = elim (slot v s pools j) [
    | blank e ↦ climb-low row w size j (omega (arith, ap (λ (r : RegionCapa). r.kind) e)) (omega arith)
    | used u ↦ climbs w size j u (subst (λ k. T (rooted k rs j)) (regions-many v) (ok-rooted rs j (at j u).rooted))
  ]
