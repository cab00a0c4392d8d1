-- A region joins its parent's child list, and leaves it: the code changes the two links about the place that it finds, and the model writes the list.
-- The list is cut at that place into b and a; the link that changes is the last of b's, or the parent's where b is empty.
use Rattle.std.specs.Prelude.{◌≡◌, ◌≢◌, Bool, eqb, ltb, length}
use Rattle.std.proofs.Math.Path.{refl, ap}
use Rattle.std.proofs.Common.{sym, ◌∙◌, eqb→eq}
use Prim.Native.Nat.{ℕ, suc, ◌+◌, ◌-◌, ◌^◌, ◌≤◌, ◌<◌}
use Rattle.std.proofs.Math.Option.{Option, none, some}
use mathlib.Core.List.{List, [], ◌∷◌, ◌++◌, append_assoc}
use native.Mathlib.Omega.{arith}
use Rattle.std.proofs.Math.Seq.{get_or-set_other}
use borrow.Author.Tests.{lt-ltb, eq-eqb, ne_eqb}
use Rattle.base.specs.Cases.{holds, fails, test, pick}
use Rattle.base.specs.Tests.{true-is}
use Rattle.base.specs.Options.{none-some, some_same}
use Rattle.model.specs.Lists.{one_if, count_if, In, first_of, after_in, without}
use Rattle.model.specs.State as state
use Rattle.model.specs.State.{State, Kind, Root, Alias, Carve, parent_of, region_in, with_children, put_region}
use Rattle.model.specs.Tree as tree
use Rattle.model.specs.Tree.{insert_sorted}
use Rattle.model.specs.Regions as model
use Rattle.model.specs.Layout.{link, kind_word}
use Rattle.laws.specs.Stack.{one}
use Rattle.laws.specs.Tree.Slots.{in-length}
use Rattle.laws.specs.Tree.Steps.{region-at, by-parent}
use Rattle.tables.specs.declared.RegionCapa.{RegionCapa}
use Rattle.tables.specs.Tables.{Tables, no_region, region_at, with_regions, with_region, with_next, with_child}
use Rattle.tables.specs.Links.{link_to, slot_to}
use Rattle.children.specs.declared.Place.{Place}
use Rattle.children.specs.declared.Search.{Search}
use Rattle.children.specs.declared.Search.TheVariants as search
use Rattle.children.specs.Children.{link_child, insert_child, remove_child}
use Rattle.leaf_revocation.specs.Leaf.{leave_parent}
use Rattle.decoded.specs.Links.{after-top, after-behind}
use Rattle.decoded.specs.Tree.Regions.{region-read}
use Rattle.decoded.specs.Tree.Children.{row_in, child-added, child-removed, first-added, first-removed}
use Rattle.refine.specs.Tree.Search.{before, rest, cut-is, last_link, ends, Children, row_read, next-of, find-is}
use Rattle.decoded.specs.Tables.{tables_of}

-- ---- lists

-- a list is empty or has a last
data Ended : List ℕ → Type 0 where
  empty : Ended []
  last : (b : List ℕ) (c : ℕ) → Ended (b ++ (c ∷ []))

one_more : (x : ℕ) (l : List ℕ) → Ended l → Ended (x ∷ l)
one_more x l empty = last [] x
one_more x l (last b c) = last (x ∷ b) c

ended : (l : List ℕ) → Ended l
ended [] = empty
ended (x ∷ l) = one_more x l (ended l)

last-link : (k : ℕ) (b : List ℕ) (c : ℕ) → last_link k (b ++ (c ∷ [])) ≡ suc c
last-link k [] c = refl
last-link k (x ∷ b) c = last-link (suc x) b c

pub count-append : (k : ℕ) (b a : List ℕ) → count_if (eqb k) (b ++ a) ≡ count_if (eqb k) b + count_if (eqb k) a
count-append k [] a = omega arith
count-append k (x ∷ b) a = omega (arith, count-append k b a)

-- ---- links in the tables

pub link-to : (i : ℕ) → i < 2 ^ 64 - 1 → link_to i ≡ suc i
link-to i h = rw (lt-ltb i (2 ^ 64 - 1) h) (omega arith)

module _ (t : Tables) (i : ℕ) (r : RegionCapa) where
  pub region-other : (j : ℕ) → j ≢ i → region_at (with_region t i r) j ≡ region_at t j
  unfolding region_at with_region with_regions
  region-other j ne = get_or-set_other t.regions i j r no_region ne

  link-first : (p k : ℕ) → p ≢ i → link_child (with_region t i r) p 0 k ≡ with_region (with_region t i r) p (with_child (region_at t p) k)
  unfolding link_child
  link-first p k ne = ap (λ (q : RegionCapa). with_region (with_region t i r) p (with_child q k)) (region-other p ne)

  link-behind : (p c k : ℕ) → c ≢ i → link_child (with_region t i r) p (suc c) k ≡ with_region (with_region t i r) c (with_next (region_at t c) k)
  unfolding link_child
  link-behind p c k ne =
      let z : suc c - 1 ≡ c = omega arith in
      rw (link_child, ne_eqb (suc c) 0 (λ e. omega arith), z) (ap (λ (q : RegionCapa). with_region (with_region t i r) c (with_next q k)) (region-other c ne))

-- ---- the lists that the model writes

insert-cut : (rs : List (Option state.Region)) (i a : ℕ) (f : ℕ → Bool) (cs : List ℕ) → ((c : ℕ) → 0 < count_if (eqb c) cs → f c ≡ ltb a (region_in rs c).start)
    → insert_sorted rs i a cs ≡ before f cs ++ (i ∷ rest f cs)
insert-cut rs i a f [] h = refl
insert-cut rs i a f (c ∷ cs) h =
    let e = h c (omega (arith, one c c refl)) in
    elim (test (f c)) [
      | holds t ↦ rw (t, sym e ∙ t)
      | fails t ↦ rw (t, sym e ∙ t) (ap (λ (l : List ℕ). c ∷ l) (insert-cut rs i a f cs (λ d k. h d (omega arith))))
    ]

without-out : (i : ℕ) (cs : List ℕ) → count_if (eqb i) cs ≡ 0 → without i cs ≡ cs
without-out i [] h = refl
without-out i (c ∷ cs) h = rw (ne_eqb c i (λ e. omega (arith, one i c (sym e)))) (ap (λ (l : List ℕ). c ∷ l) (without-out i cs (omega arith)))

-- i is in the list once, and the test finds it
record Cut (i : ℕ) (b a cs : List ℕ) : Type 0 where
  later : List ℕ
  found : a ≡ i ∷ later
  less : without i cs ≡ b ++ later
  gone : count_if (eqb i) b ≡ 0

cut-more : (i c : ℕ) (b a cs : List ℕ) → c ≢ i → Cut i b a cs → Cut i (c ∷ b) a (c ∷ cs)
cut-more i c b a cs ne k = record { later = k.later; found = k.found; less = rw (ne_eqb c i ne) (ap (λ (l : List ℕ). c ∷ l) k.less); gone = omega (arith, k.gone, ap one_if (ne_eqb i c (λ e. ne (sym e)))) }

cut-here : (i c : ℕ) (cs : List ℕ) → c ≡ i → count_if (eqb i) (c ∷ cs) ≤ 1 → Cut i [] (c ∷ cs) (c ∷ cs)
cut-here i c cs e o = record { later = cs; found = ap (λ (k : ℕ). k ∷ cs) e; less = rw (eq-eqb c i e) (without-out i cs (omega (arith, one i c (sym e)))); gone = refl }

remove-cut : (i : ℕ) (f : ℕ → Bool) (cs : List ℕ) → ((c : ℕ) → f c ≡ eqb c i) → count_if (eqb i) cs ≡ 1 → Cut i (before f cs) (rest f cs) cs
remove-cut i f [] h o = absurd (omega arith)
remove-cut i f (c ∷ cs) h o =
    elim (test (f c)) [
      | holds t ↦ rw t (cut-here i c cs (eqb→eq c i (true-is (sym (h c) ∙ t))) (omega arith))
      | fails t ↦
          let ne : c ≢ i = λ e. absurd (let z : ◌≡◌ {A = ℕ} 0 1 = cc (eq-eqb c i e, h c) in omega arith) in
          rw t (cut-more i c (before f cs) (rest f cs) cs ne (remove-cut i f cs h (omega (arith, ap one_if (ne_eqb i c (λ e. ne (sym e)))))))
    ]

-- ---- region x in slot i, and its parent g in slot p

module _ (s : State) (long : length s.regions ≡ s.sizes.regions) (p : ℕ) (g : state.Region) (at : In s.regions p g) (children : Children s.regions p g.children) (i : ℕ) (x : state.Region) (ei : In s.regions i x) (hi : parent_of x.kind ≡ some p) (ni : i ≢ p) where
  below : (j : ℕ) (y : state.Region) → In s.regions j y → j < s.sizes.regions
  below j y e = omega (arith, in-length s.regions j y e, long)

  row : (j : ℕ) (y : state.Region) → In s.regions j y → row_in s.regions j ≡ region_at (tables_of s) j
  row j y e = sym (row_read s long j (below j y e))

  -- the tables with another next link of i, then another link before the place behind b
  abbrev linked : ℕ → List ℕ → ℕ → Tables
  linked n b k = link_child (with_region (tables_of s) i (with_next (region_at (tables_of s) i) n)) p (last_link 0 b) k

  -- the tables with those two links written, in the rows as they are read
  at_head : (n k : ℕ) → with_region (with_region (tables_of s) i (with_next (row_in s.regions i) n)) p (with_child (row_in s.regions p) k) ≡ linked n [] k
  at_head n k = rw (row i x ei, row p g at) (sym (link-first (tables_of s) i _ p k (λ z. ni (sym z))))

  behind : (n k : ℕ) (b : List ℕ) (c : ℕ) (y : state.Region) → In s.regions c y → c ≢ i
      → with_region (with_region (tables_of s) i (with_next (row_in s.regions i) n)) c (with_next (row_in s.regions c) k) ≡ linked n (b ++ (c ∷ [])) k
  behind n k b c y ec ne = rw (row i x ei, row c y ec, last-link 0 b c) (sym (link-behind (tables_of s) i _ p c k ne))

  -- what is known of a child c behind b
  module _ (b : List ℕ) (c : ℕ) (l : List ℕ) (split : g.children ≡ b ++ (c ∷ l)) where
    counts : (k : ℕ) → count_if (eqb k) g.children ≡ count_if (eqb k) b + (one_if (eqb k c) + count_if (eqb k) l)
    counts k = ap (count_if (eqb k)) split ∙ count-append k b (c ∷ l)

    child-there : (y : state.Region) × In s.regions c y × (parent_of y.kind ≡ some p)
    child-there = children.under c (omega (arith, counts c, one c c refl))

    child-once : count_if (eqb c) b ≡ 0
    child-once = omega (arith, counts c, one c c refl, children.once c)

    child-other : c ≢ p
    child-other z = omega (arith, children.other, counts p, one p c (sym z))

  joined : (b a : List ℕ) → Ended b → g.children ≡ b ++ a → count_if (eqb i) g.children ≡ 0
      → tables_of (put_region p (with_children (b ++ (i ∷ a)) g) s) ≡ linked (link (first_of a)) b (suc i)
  joined b a empty e o = first-added s long p g at i x ei hi ni a e ∙ at_head (link (first_of a)) (suc i)
  joined b a (last b' c) e o =
      let split = e ∙ append_assoc b' (c ∷ []) a in
      let (y, ec, hc) = child-there b' c a split in
      let n = counts b' c a split i in
      let ne : i ≢ c = λ z. omega (arith, n, one i c z) in
      ap (λ (l : List ℕ). tables_of (put_region p (with_children l g) s)) (append_assoc b' (c ∷ []) (i ∷ a))
      ∙ child-added s long p g at i x ei hi ni c y ec hc (child-other b' c a split) b' a (child-once b' c a split) (omega (arith, n)) ne split
      ∙ behind (link (first_of a)) (suc i) b' c y ec (λ z. ne (sym z))

  parted : (b a : List ℕ) → Ended b → g.children ≡ b ++ (i ∷ a) → tables_of (put_region p (with_children (b ++ a) g) s) ≡ linked 0 b (link (first_of a))
  parted b a empty e = first-removed s long p g at i x ei hi ni a e (omega (arith, children.once i, ap (count_if (eqb i)) e, one i i refl)) ∙ at_head 0 (link (first_of a))
  parted b a (last b' c) e =
      let split = e ∙ append_assoc b' (c ∷ []) (i ∷ a) in
      let (y, ec, hc) = child-there b' c (i ∷ a) split in
      let n = counts b' c (i ∷ a) split i in
      let ne : i ≢ c = λ z. omega (arith, n, one i c z, one i i refl, children.once i) in
      ap (λ (l : List ℕ). tables_of (put_region p (with_children l g) s)) (append_assoc b' (c ∷ []) a)
      ∙ child-removed s long p g at i x ei hi ni c y ec hc (child-other b' c (i ∷ a) split) b' a (child-once b' c (i ∷ a) split) (omega (arith, n, one i i refl, children.once i)) ne split (omega (arith, n, one i i refl, children.once i))
      ∙ behind 0 (link (first_of a)) b' c y ec (λ z. ne (sym z))

  module _ (few : s.sizes.regions < 2 ^ 64) where
    link-i : link_to i ≡ suc i
    link-i = link-to i (omega (arith, below i x ei))

    start-read : (j : ℕ) (y : state.Region) → In s.regions j y → (region_at (tables_of s) j).start ≡ (region_in s.regions j).start
    start-read j y e = ap (λ (r : RegionCapa). r.start) (region-read s long j y e) ∙ sym (ap (λ (z : state.Region). z.start) (region-at s j y e))

    -- ---- i joins

    abbrev after : Search
    after = search.After (region_at (tables_of s) i).start

    abbrev f : ℕ → Bool
    f = ends after (tables_of s)

    same_test : (c : ℕ) → 0 < count_if (eqb c) g.children → f c ≡ ltb (region_in s.regions i).start (region_in s.regions c).start
    same_test c h = let (y, e, q) = children.under c h in rw (start-read c y e, start-read i x ei)

    code-joins : insert_child (tables_of s) p i ≡ linked (link (first_of (rest f g.children))) (before f g.children) (suc i)
    unfolding insert_child
    code-joins =
        ap (λ (c : Place). link_child (with_region (tables_of s) i (with_next (region_at (tables_of s) i) c.at)) p c.prev (link_to i)) (find-is s long p g at children after)
        ∙ ap (linked (link (first_of (rest f g.children))) (before f g.children)) link-i

    model-joins : tree.insert_child p i s ≡ put_region p (with_children (before f g.children ++ (i ∷ rest f g.children)) g) s
    unfolding tree.insert_child
    model-joins =
        ap (λ (h : state.Region). put_region p (with_children (insert_sorted s.regions i (region_in s.regions i).start h.children) h) s) (region-at s p g at)
        ∙ ap (λ (l : List ℕ). put_region p (with_children l g) s) (insert-cut s.regions i (region_in s.regions i).start f g.children same_test)

    pub insert-child-is : count_if (eqb i) g.children ≡ 0 → insert_child (tables_of s) p i ≡ tables_of (tree.insert_child p i s)
    insert-child-is o =
        code-joins
        ∙ sym (joined (before f g.children) (rest f g.children) (ended (before f g.children)) (cut-is f g.children) o)
        ∙ ap tables_of (sym model-joins)

    -- ---- i leaves

    abbrev same : Search
    same = search.Link (link_to i)

    abbrev h : ℕ → Bool
    h = ends same (tables_of s)

    same-link : (c : ℕ) → h c ≡ eqb c i
    same-link c = rw link-i (elim (test (eqb c i)) [
      | holds t ↦ rw t (eq-eqb (suc c) (suc i) (ap suc (eqb→eq c i (true-is t))))
      | fails t ↦ rw t (ne_eqb (suc c) (suc i) (λ e. let z : c ≡ i = omega arith in let w : ◌≡◌ {A = ℕ} 0 1 = cc (eq-eqb c i z) in omega arith))
    ])

    model-parts : tree.remove_child p i s ≡ put_region p (with_children (without i g.children) g) s
    unfolding tree.remove_child
    model-parts = ap (λ (k : state.Region). put_region p (with_children (without i k.children) k) s) (region-at s p g at)

    module _ (there : count_if (eqb i) g.children ≡ 1) where
      cut : Cut i (before h g.children) (rest h g.children) g.children
      cut = remove-cut i h g.children same-link there

      split : g.children ≡ before h g.children ++ (i ∷ cut.later)
      split = cut-is h g.children ∙ ap (λ (l : List ℕ). before h g.children ++ l) cut.found

      next-read : (region_at (tables_of s) i).next ≡ link (first_of cut.later)
      next-read =
          next-of s long p g at children i (omega (arith, there))
          ∙ ap (λ (l : List ℕ). link (after_in l i)) split
          ∙ ap link (after-behind i (before h g.children) (i ∷ cut.later) cut.gone ∙ after-top i cut.later)

      code-parts : remove_child (tables_of s) p i ≡ linked 0 (before h g.children) (link (first_of cut.later))
      unfolding remove_child
      code-parts =
          ap (λ (c : Place). link_child (with_region (tables_of s) i (with_next (region_at (tables_of s) i) 0)) p c.prev (region_at (tables_of s) i).next) (find-is s long p g at children same)
          ∙ ap (linked 0 (before h g.children)) next-read

      pub remove-child-is : remove_child (tables_of s) p i ≡ tables_of (tree.remove_child p i s)
      remove-child-is =
          code-parts
          ∙ sym (parted (before h g.children) cut.later (ended (before h g.children)) split)
          ∙ ap (λ (l : List ℕ). tables_of (put_region p (with_children l g) s)) (sym cut.less)
          ∙ ap tables_of (sym model-parts)

      -- ---- i leaves its parent's list

      code-leaves : leave_parent i (tables_of s) ≡ remove_child (tables_of s) p i
      unfolding leave_parent
      code-leaves =
          ap (λ (r : RegionCapa). pick (eqb r.kind 1) (tables_of s) (remove_child (tables_of s) (slot_to r.parent) i)) (region-read s long i x ei)
          ∙ by_kind x.kind hi
        where
          by_kind : (k : Kind) → parent_of k ≡ some p → pick (eqb (kind_word k) 1) (tables_of s) (remove_child (tables_of s) (slot_to (link (parent_of k))) i) ≡ remove_child (tables_of s) p i
          by_kind Root e = absurd (none-some none p refl e)
          by_kind (Alias q) e = let m : suc q - 1 ≡ p = omega (arith, some_same (some q) q p refl e) in rw m
          by_kind (Carve q) e = let m : suc q - 1 ≡ p = omega (arith, some_same (some q) q p refl e) in rw m

      model-leaves : model.leave_parent i s ≡ tree.remove_child p i s
      unfolding model.leave_parent
      model-leaves = by-parent (state.region_at s i).kind p s (λ n. tree.remove_child n i s) (ap (λ (r : state.Region). parent_of r.kind) (region-at s i x ei) ∙ hi)

      pub leave-parent-is : leave_parent i (tables_of s) ≡ tables_of (model.leave_parent i s)
      leave-parent-is = code-leaves ∙ remove-child-is ∙ ap tables_of (sym model-leaves)
