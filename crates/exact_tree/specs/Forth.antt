-- From what the test finds to the clauses: each child is in its parent's list, since the lists have as many members as there are children, and a
-- child can be in no other list, and in that one once.
use Rattle.std.specs.Prelude.{◌≡◌, ◌≢◌, not, ◌&&◌, List, map, ℕ, suc, ◌+◌, ◌-◌, ◌≤◌, ◌<◌, T, eqb, ltb}
use Rattle.std.proofs.Common.{sym, ap, subst, ◌∙◌, arith, lt-ltb, le-ltb, ne_eqb}
use Rattle.std.proofs.Math.Option.{Option, some}
use Rattle.std.proofs.Math.Decide.{ℕ_discrete}
use Rattle.base.specs.Cases.{Cmp, lt, ge, cmp, holds, fails, test}
use Rattle.base.specs.Tests.{true-is}
use Rattle.rights.specs.Rights.{allowed}
use Rattle.model.specs.Lists as lists
use Rattle.model.specs.Lists.{count_if, Each, is_some, at_slot, In}
use Rattle.model.specs.State as state
use Rattle.model.specs.State.{parent_of}
use Rattle.model.specs.Tree.{is_carve, access_of, overlaps, children_of}
use Rattle.model.specs.Sound.{Rooted, RegionSound, Ordered, names}
use Rattle.laws.specs.Stack.{one}
use Rattle.laws.specs.Tree.Sum.{sum, sum_lt, sum-find, sum-unique}
use Rattle.laws.specs.Tree.Slots.{each_in, in-each, is_live_lem}
use Rattle.tables.specs.declared.RegionCapa.{RegionCapa}
use Rattle.tables.specs.Tables.{Tables}
use Rattle.decoded.specs.Shape.{Shaped}
use Rattle.decoded.specs.Decode.Read.{kind_from, region_read, regions_from}
use Rattle.decoded.specs.Canonical.Ends.{ended-once}
use Rattle.decoded.specs.Canonical.WellFormed.{region_row}
use Rattle.decoded.specs.Canonical.Sound.{parent_is}
use Rattle.sound_tree.specs.Tree.{no_run, is_child}
use Rattle.exact_tree.specs.Walks.{next_of, fits-parents, fits-pairs, pairs-find, pairs-ordered}
use Rattle.exact_tree.specs.Lists.{kids, many, Listed, uses, many-uses, tells, one-t}
use Rattle.exact_tree.specs.Rows.{Used, used, blank, PoolClauses, RegionWords, slot, RowFacts}
use Rattle.exact_tree.specs.Read.{no-parent, parent-link, carve-kind, read-in, in-read, same-starts, blank-listed}

-- no range begins before the other ends
apart-l : (a b c d : ℕ) → d ≤ a → T (not (ltb a d && ltb c b))
apart-l a b c d h = rw (le-ltb a d h) tt

apart-r : (a b c d : ℕ) → b ≤ c → T (not (ltb a d && ltb c b))
apart-r a b c d h = elim (test (ltb a d)) [ holds t ↦ rw (t, le-ltb c b h) tt | fails t ↦ rw t tt ]

module _ (v : Tables) (s : Shaped v) (pools : PoolClauses v)
    (rows : (i : ℕ) → Used v i → RowFacts v i)
    (below : (k : ℕ) → k < v.sizes.regions → Listed (region_row v) v.sizes.regions k)
    (total : sum (many (region_row v) v.sizes.regions) v.sizes.regions ≡ sum (tells (is_child (region_row v))) v.sizes.regions) where
  abbrev row : ℕ → RegionCapa
  row = region_row v

  abbrev size : ℕ
  size = v.sizes.regions

  abbrev kids_of : ℕ → List ℕ
  kids_of k = kids row size k

  -- ---- a member of a list

  listed-any : (k : ℕ) → Listed row size k
  listed-any k = elim (slot v s pools k) [ used u ↦ below k u.below | blank e ↦ blank-listed v k e ]

  once : (k i : ℕ) → count_if (eqb i) (kids_of k) ≤ 1
  once k i = ended-once (next_of row) size (row k).child (listed-any k).ends i

  member : (k i : ℕ) → 0 < count_if (eqb i) (kids_of k) → (row i).parent ≡ k + 1
  member k i h = each_in (λ c. (row c).parent ≡ k + 1) (kids_of k) (fits-parents row (k + 1) no_run (kids_of k) (listed-any k).fits) i h

  used-child : (i : ℕ) → 0 < (row i).parent → Used v i
  used-child i h = elim (slot v s pools i) [ used u ↦ u | blank e ↦ absurd (omega (arith, ap (λ (r : RegionCapa). r.parent) e)) ]

  used-end : (i : ℕ) → 0 < (row i).end → Used v i
  used-end i h = elim (slot v s pools i) [ used u ↦ u | blank e ↦ absurd (omega (arith, ap (λ (r : RegionCapa). r.end) e)) ]

  child-kind : (i : ℕ) → 0 < (row i).parent → 2 ≤ (row i).kind
  child-kind i h = let f = rows i (used-child i h) in elim (cmp (row i).kind 2) [
    | lt u ↦ absurd (omega (arith, f.root_parent (omega (arith, f.kind_low))))
    | ge u ↦ u
  ]

  member-used : (k i : ℕ) → 0 < count_if (eqb i) (kids_of k) → Used v i
  member-used k i h = used-child i (omega (arith, member k i h))

  -- ---- the lists have every child

  outside : (k : ℕ) → k < size → (i : ℕ) → size ≤ i → count_if (eqb i) (kids_of k) ≡ 0
  outside k b i h = elim (cmp 0 (count_if (eqb i) (kids_of k))) [
    | lt u ↦ absurd (omega (arith, (member-used k i u).below))
    | ge u ↦ omega arith
  ]

  uses-few : (i : ℕ) → uses row size i ≤ tells (is_child row) i
  uses-few i = elim (cmp 0 (uses row size i)) [
    | ge u ↦ omega arith
    | lt u ↦
        let f = sum-find (λ k. count_if (eqb i) (kids_of k)) size u in
        let c = child-kind i (omega (arith, member f.at i f.counts)) in
        omega (arith, one-t (is_child row i) (lt-ltb 1 (row i).kind c), sum-unique (λ k. count_if (eqb i) (kids_of k)) size (λ k. once k i) (λ j k ne a b. ne (omega (arith, member j i a, member k i b))))
  ]

  uses-all : (i : ℕ) → i < size → tells (is_child row) i ≤ uses row size i
  uses-all i b = elim (cmp (uses row size i) (tells (is_child row) i)) [
    | ge u ↦ u
    | lt u ↦ absurd (omega (arith, sum_lt (uses row size) (tells (is_child row)) size i b uses-few u, many-uses row size outside, total))
  ]

  in_list : (i p : ℕ) → Used v i → (row i).parent ≡ suc p → 0 < count_if (eqb i) (kids_of p)
  in_list i p u e =
      let c = child-kind i (omega arith) in
      let f = sum-find (λ k. count_if (eqb i) (kids_of k)) size (omega (arith, uses-all i u.below, one-t (is_child row i) (lt-ltb 1 (row i).kind c))) in
      let z : f.at ≡ p = omega (arith, member f.at i f.counts) in
      subst (λ k. 0 < count_if (eqb i) (kids_of k)) z f.counts

  -- the parent of a region in use is in use
  pub over : (j : ℕ) → Used v j → 2 ≤ (row j).kind → Used v ((row j).parent - 1)
  over j u c = used-end ((row j).parent - 1) (omega (arith, (rows j u).nonempty, ((rows j u).inside c).high))

  -- ---- the clauses of one region

  abbrev rs : List (Option state.Region)
  rs = regions_from v

  module _ (words : RegionWords v) (lead : (i : ℕ) → Used v i → Rooted rs i) (i : ℕ) (u : Used v i) where
    abbrev g : state.Region
    g = region_read v i

    f : RowFacts v i
    f = rows i u

    has-parent : (p : ℕ) → parent_of g.kind ≡ some p → (2 ≤ (row i).kind) × ((row i).parent ≡ suc p)
    has-parent p e = parent-link (row i).kind (row i).parent p f.child_parent e

    parent-used : (p : ℕ) → parent_of g.kind ≡ some p → Used v p
    parent-used p e =
        let h = has-parent p e in
        let z : (row i).parent - 1 ≡ p = omega (arith, h.1) in
        subst (Used v) z (over i u h.0)

    list_count : (p : ℕ) → count_if (eqb i) (kids_of p) ≡ lists.one_if (names (parent_of g.kind) p)
    list_count p = elim (cmp (row i).kind 2) [
      | lt k ↦ rw (no-parent (row i).kind (row i).parent k) (root-count (cmp 0 (count_if (eqb i) (kids_of p))) k)
      | ge k ↦ child-count ((row i).parent - 1) (omega (arith, f.child_parent k)) k
    ]
      where
        root-count : Cmp 0 (count_if (eqb i) (kids_of p)) → (row i).kind < 2 → count_if (eqb i) (kids_of p) ≡ 0
        root-count (lt h) k = absurd (omega (arith, member p i h, child-kind i (omega (arith, member p i h))))
        root-count (ge h) k = omega arith

        child-count : (q : ℕ) → (row i).parent ≡ suc q → 2 ≤ (row i).kind → count_if (eqb i) (kids_of p) ≡ lists.one_if (names (parent_of g.kind) p)
        child-count q e k =
            let z : parent_of g.kind ≡ some q = ap (λ l. parent_of (kind_from (row i).kind l)) e ∙ parent_is (row i).kind q k in
            rw z (elim (ℕ_discrete q p) [
              | yes y ↦ let w : (row i).parent ≡ suc p = omega arith in omega (arith, one q p y, once p i, in_list i p u w)
              | no ne ↦ elim (cmp 0 (count_if (eqb i) (kids_of p))) [
                | lt h ↦ absurd (ne (omega (arith, member p i h)))
                | ge h ↦ omega (arith, ap lists.one_if (ne_eqb q p ne))
              ]
            ])

    -- the parent's row
    up_is : (p : ℕ) → parent_of g.kind ≡ some p → region_row v ((row i).parent - 1) ≡ row p
    up_is p e = let z : (row i).parent - 1 ≡ p = omega (arith, (has-parent p e).1) in ap row z

    inside : (p : ℕ) (h : state.Region) → parent_of g.kind ≡ some p → In rs p h → (h.start ≤ g.start) × (g.end ≤ h.end)
    inside p h e m =
        let w = f.inside (has-parent p e).0 in
        let a = ap (λ (r : RegionCapa). r.start) (up_is p e) in
        let b = ap (λ (r : RegionCapa). r.end) (up_is p e) in
        let x = ap (λ (r : state.Region). r.start) (in-read v p h m).1 in
        let y = ap (λ (r : state.Region). r.end) (in-read v p h m).1 in
        (omega (arith, w.low), omega (arith, w.high))

    rights-inside : (p : ℕ) (h : state.Region) → parent_of g.kind ≡ some p → In rs p h → T (allowed h.rights g.rights)
    rights-inside p h e m =
        let w = f.inside (has-parent p e).0 in
        let a = ap (λ (r : RegionCapa). r.rights) (up_is p e) in
        let x = ap (λ (r : state.Region). r.rights) (in-read v p h m).1 in
        true-is (ap (λ k. allowed k g.rights) (sym (a ∙ x)) ∙ w.rights)

    children-live : Each (λ c. T (is_some (at_slot rs c))) (kids_of i)
    children-live = in-each (λ c. T (is_some (at_slot rs c))) (kids_of i) (λ c h. is_live_lem (at_slot rs c) (region_read v c) (read-in v c (member-used i c h)))

    ordered : Ordered (map (λ (c : state.Region). c.start) (children_of rs g))
    ordered = rw (same-starts v (kids_of i) (in-each (Used v) (kids_of i) (λ c h. member-used i c h))) (pairs-ordered row (kids_of i) (fits-pairs row (i + 1) no_run (kids_of i) (listed-any i).fits))

    -- two children of one region, of which the first is a carve
    apart_in : (j p : ℕ) → i ≢ j → (row i).kind ≡ 3 → 0 < count_if (eqb i) (kids_of p) → 0 < count_if (eqb j) (kids_of p) → T (not (overlaps (access_of g) (region_read v j)))
    apart_in j p ne k a b =
        pairs-find row (kids_of p) i j (fits-pairs row (p + 1) no_run (kids_of p) (listed-any p).fits) a b ne
        (λ o. apart-r (row i).start (row i).end (row j).start (row j).end (o.from_carve k))
        (λ o. apart-l (row i).start (row i).end (row j).start (row j).end (o.to_carve k))

    carves-apart : (j : ℕ) (h : state.Region) → In rs j h → i ≢ j → T (is_carve g.kind) → parent_of g.kind ≡ parent_of h.kind → T (not (overlaps (access_of g) h))
    carves-apart j h m ne c e =
        let k = carve-kind (row i).kind (row i).parent f.kind_high c in
        let r = in-read v j h m in
        let p = (row i).parent - 1 in
        let z : (row i).parent ≡ suc p = omega (arith, f.child_parent (omega arith)) in
        let q : parent_of g.kind ≡ some p = ap (λ l. parent_of (kind_from (row i).kind l)) z ∙ parent_is (row i).kind p (omega arith) in
        let y : (row j).parent ≡ suc p = (parent-link (row j).kind (row j).parent p (rows j r.0).child_parent (ap (λ (x : state.Region). parent_of x.kind) r.1 ∙ sym e ∙ q)).1 in
        subst (λ (x : state.Region). T (not (overlaps (access_of g) x))) r.1 (apart_in j p ne k (in_list i p u z) (in_list j p r.0 y))

    pub region-sound : RegionSound rs i g
    region-sound = record {
      parent_live = λ p e. is_live_lem (at_slot rs p) (region_read v p) (read-in v p (parent-used p e));
      listed = λ p h m. ap (λ (x : state.Region). count_if (eqb i) x.children) (sym (in-read v p h m).1) ∙ list_count p;
      children_live = children-live;
      rooted = lead i u;
      ordered = ordered;
      nonempty = f.nonempty;
      inside = inside;
      carves_apart = carves-apart;
      rights_inside = rights-inside;
      start_word = (words i).0;
      end_word = (words i).1;
      rights_byte = f.rights_byte;
      hash_words = (words i).2;
    }
