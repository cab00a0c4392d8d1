-- A child list walked by the test: it ends, and each child fits behind those before it. That is: each has the link of the region as its parent,
-- starts do not fall, and of two children of which one is a carve the first ends before the second starts.
use Rattle.std.specs.Prelude.{◌≡◌, ◌≢◌, true, false, List, [], ◌∷◌, map, ℕ, zero, suc, ◌+◌, ◌≤◌, ◌<◌, eqb, length}
use Rattle.std.proofs.Math.Path.{refl}
use Rattle.std.proofs.Common.{sym, ◌∙◌, arith, eqb→eq}
use borrow.Author.Tests.{eqb-true, leb-true, eq-eqb, le-leb, lt-ltb, le-ltb, ne_eqb}
use Rattle.base.specs.Cases.{holds, fails, test, lt, ge, cmp}
use Rattle.base.specs.Tests.{true-is, both_true}
use Rattle.model.specs.Lists.{one_if, count_if, Each}
use Rattle.model.specs.Sound.{Ordered}
use Rattle.laws.specs.Tree.Slots.{each_in, in-each}
use Rattle.tables.specs.declared.RegionCapa.{RegionCapa}
use Rattle.decoded.specs.Decode.Read.{chain_from}
use Rattle.decoded.specs.Canonical.Ends.{chain_end}
use Rattle.sound_tree.specs.declared.Run.{Run}
use Rattle.sound_tree.specs.Tree.{larger, after, floor_of, child_fits, walk_from}

pub each_map : (P Q : ℕ → Type 0) (l : List ℕ) → ((x : ℕ) → P x → Q x) → Each P l → Each Q l
each_map P Q [] f h = tt
each_map P Q (x ∷ l) f h = (f x h.0, each_map P Q l f h.1)

-- ---- one child

larger-l : (a b : ℕ) → a ≤ larger a b
larger-l a b = elim (cmp a b) [ lt h ↦ rw (lt-ltb a b h) (omega arith) | ge h ↦ rw (le-ltb a b h) (omega arith) ]

larger-r : (a b : ℕ) → b ≤ larger a b
larger-r a b = elim (cmp a b) [ lt h ↦ rw (lt-ltb a b h) (omega arith) | ge h ↦ rw (le-ltb a b h) (omega arith) ]

larger-le : (a b x : ℕ) → a ≤ x → b ≤ x → larger a b ≤ x
larger-le a b x h k = elim (cmp a b) [ lt u ↦ rw (lt-ltb a b u) k | ge u ↦ rw (le-ltb a b u) h ]

module _ (s : Run) (r : RegionCapa) where
  floor-carve : eqb r.kind 3 ≡ true → floor_of s r ≡ s.far
  unfolding floor_of
  floor-carve e = rw e

  floor-other : eqb r.kind 3 ≡ false → floor_of s r ≡ s.carved
  unfolding floor_of
  floor-other e = rw e

  carved-carve : eqb r.kind 3 ≡ true → (after s r).carved ≡ larger s.carved r.end
  unfolding after
  carved-carve e = rw e

  carved-other : eqb r.kind 3 ≡ false → (after s r).carved ≡ s.carved
  unfolding after
  carved-other e = rw e

  after-far : (after s r).far ≡ larger s.far r.end
  unfolding after
  after-far = refl

  after_last : (after s r).last ≡ r.start
  unfolding after
  after_last = refl

  fit-split : (own : ℕ) → child_fits own s r ≡ true → (r.parent ≡ own) × (s.last ≤ r.start) × (floor_of s r ≤ r.start)
  unfolding child_fits
  fit-split own h =
      let a = both_true (eqb r.parent own) _ h in
      let b = both_true _ _ a.1 in
      (eqb-true _ _ a.0, leb-true _ _ b.0, leb-true _ _ b.1)

  split-fit : (own : ℕ) → r.parent ≡ own → s.last ≤ r.start → floor_of s r ≤ r.start → child_fits own s r ≡ true
  unfolding child_fits
  split-fit own p a b = rw (eq-eqb _ _ p, le-leb _ _ a, le-leb _ _ b)

module _ (row : ℕ → RegionCapa) where
  abbrev pub next_of : ℕ → ℕ
  next_of i = (row i).next

  -- ---- the walk and the list

  abbrev pub FitAll : ℕ → Run → List ℕ → Type 0
  FitAll own s [] = Unit {0}
  FitAll own s (c ∷ l) = (child_fits own s (row c) ≡ true) × FitAll own (after s (row c)) l

  -- m children are left behind the list
  pub record Walk (own n l : ℕ) (s : Run) (m : ℕ) : Type 0 where
    pub ends : chain_end next_of n l ≡ 0
    pub long : length (chain_from next_of n l) + m ≡ n
    pub fits : FitAll own s (chain_from next_of n l)

  walk_step : (own n c : ℕ) (s : Run) (m : ℕ) → walk_from row own (suc n) (suc c) s ≡ suc m → (walk_from row own n (row c).next (after s (row c)) ≡ suc m → Walk own n (row c).next (after s (row c)) m) → Walk own (suc n) (suc c) s m
  walk_step own n c s m e ih = elim (test (child_fits own s (row c))) [
    | holds t ↦ let w = ih (rw t at e) in record { ends = w.ends; long = omega (arith, w.long); fits = (t, w.fits) }
    | fails t ↦ let z : 0 ≡ suc m = rw t at e in absurd (omega arith)
  ]

  pub walk-facts : (own n l : ℕ) (s : Run) (m : ℕ) → walk_from row own n l s ≡ suc m → Walk own n l s m
  walk-facts own zero zero s m e = record { ends = refl; long = omega arith; fits = tt }
  walk-facts own zero (suc c) s m e = absurd (omega arith)
  walk-facts own (suc n) zero s m e = record { ends = refl; long = omega arith; fits = tt }
  walk-facts own (suc n) (suc c) s m e = walk_step own n c s m e (walk-facts own n (row c).next (after s (row c)) m)

  pub facts-walk : (own n l : ℕ) (s : Run) (m : ℕ) → chain_end next_of n l ≡ 0 → length (chain_from next_of n l) + m ≡ n → FitAll own s (chain_from next_of n l) → walk_from row own n l s ≡ suc m
  facts-walk own zero zero s m e h f = omega arith
  facts-walk own zero (suc c) s m e h f = absurd (omega arith)
  facts-walk own (suc n) zero s m e h f = omega arith
  facts-walk own (suc n) (suc c) s m e h f = rw f.0 (facts-walk own n (row c).next (after s (row c)) m e (omega arith) f.1)

  -- ---- the list and its order

  -- child d behind the run s
  pub record Behind (s : Run) (d : ℕ) : Type 0 where
    pub last : s.last ≤ (row d).start
    pub floor : floor_of s (row d) ≤ (row d).start

  -- child c before child d
  pub record Sorted (c d : ℕ) : Type 0 where
    pub starts : (row c).start ≤ (row d).start
    pub from_carve : (row c).kind ≡ 3 → (row c).end ≤ (row d).start
    pub to_carve : (row d).kind ≡ 3 → (row c).end ≤ (row d).start

  abbrev pub Pairs : List ℕ → Type 0
  Pairs [] = Unit {0}
  Pairs (c ∷ l) = Each (Sorted c) l × Pairs l

  module _ (s : Run) (c d : ℕ) where
    floor-more : Behind s d → Sorted c d → floor_of (after s (row c)) (row d) ≤ (row d).start
    floor-more b h = elim (test (eqb (row d).kind 3)) [
      | holds e ↦ omega (arith, floor-carve (after s (row c)) (row d) e, floor-carve s (row d) e, after-far s (row c), b.floor, larger-le s.far (row c).end (row d).start (omega (arith, floor-carve s (row d) e, b.floor)) (h.to_carve (eqb-true _ _ e)))
      | fails e ↦ elim (test (eqb (row c).kind 3)) [
        | holds f ↦ omega (arith, floor-other (after s (row c)) (row d) e, carved-carve s (row c) f, larger-le s.carved (row c).end (row d).start (omega (arith, floor-other s (row d) e, b.floor)) (h.from_carve (eqb-true _ _ f)))
        | fails f ↦ omega (arith, floor-other (after s (row c)) (row d) e, carved-other s (row c) f, floor-other s (row d) e, b.floor)
      ]
    ]

    behind_more : Behind s d → Sorted c d → Behind (after s (row c)) d
    behind_more b h = record { last = omega (arith, after_last s (row c), h.starts); floor = floor-more b h }

    -- and back
    floor-less : floor_of (after s (row c)) (row d) ≤ (row d).start → floor_of s (row d) ≤ (row d).start
    floor-less b = elim (test (eqb (row d).kind 3)) [
      | holds e ↦ omega (arith, floor-carve (after s (row c)) (row d) e, floor-carve s (row d) e, after-far s (row c), larger-l s.far (row c).end)
      | fails e ↦ elim (test (eqb (row c).kind 3)) [
        | holds f ↦ omega (arith, floor-other (after s (row c)) (row d) e, floor-other s (row d) e, carved-carve s (row c) f, larger-l s.carved (row c).end)
        | fails f ↦ omega (arith, floor-other (after s (row c)) (row d) e, floor-other s (row d) e, carved-other s (row c) f)
      ]
    ]

    to-carve : floor_of (after s (row c)) (row d) ≤ (row d).start → (row d).kind ≡ 3 → (row c).end ≤ (row d).start
    to-carve b k = let e = eq-eqb (row d).kind 3 k in omega (arith, floor-carve (after s (row c)) (row d) e, after-far s (row c), larger-r s.far (row c).end)

    from-carve : floor_of (after s (row c)) (row d) ≤ (row d).start → (row c).kind ≡ 3 → (row c).end ≤ (row d).start
    from-carve b k = elim (test (eqb (row d).kind 3)) [
      | holds e ↦ to-carve b (eqb-true _ _ e)
      | fails e ↦ omega (arith, floor-other (after s (row c)) (row d) e, carved-carve s (row c) (eq-eqb (row c).kind 3 k), larger-r s.carved (row c).end)
    ]

    behind-less : Behind (after s (row c)) d → Behind s c → Behind s d
    behind-less b h = record { last = omega (arith, after_last s (row c), b.last, h.last); floor = floor-less b.floor }

    behind-sorted : Behind (after s (row c)) d → Sorted c d
    behind-sorted b = record { starts = omega (arith, after_last s (row c), b.last); from_carve = from-carve b.floor; to_carve = to-carve b.floor }

  pub fits-behind : (own : ℕ) (s : Run) (l : List ℕ) → FitAll own s l → Each (Behind s) l
  fits-behind own s [] f = tt
  fits-behind own s (c ∷ l) f =
      let p = fit-split s (row c) own f.0 in
      let h : Behind s c = record { last = p.1; floor = p.2 } in
      (h, each_map (Behind (after s (row c))) (Behind s) l (λ d b. behind-less s c d b h) (fits-behind own (after s (row c)) l f.1))

  pub fits-pairs : (own : ℕ) (s : Run) (l : List ℕ) → FitAll own s l → Pairs l
  fits-pairs own s [] f = tt
  fits-pairs own s (c ∷ l) f =
      (each_map (Behind (after s (row c))) (Sorted c) l (λ d b. behind-sorted s c d b) (fits-behind own (after s (row c)) l f.1), fits-pairs own (after s (row c)) l f.1)

  pub fits-parents : (own : ℕ) (s : Run) (l : List ℕ) → FitAll own s l → Each (λ c. (row c).parent ≡ own) l
  fits-parents own s [] f = tt
  fits-parents own s (c ∷ l) f = ((fit-split s (row c) own f.0).0, fits-parents own (after s (row c)) l f.1)

  pub pairs-fit : (own : ℕ) (s : Run) (l : List ℕ) → Each (Behind s) l → Pairs l → Each (λ c. (row c).parent ≡ own) l → FitAll own s l
  pairs-fit own s [] b p h = tt
  pairs-fit own s (c ∷ l) b p h =
      (split-fit s (row c) own h.0 b.0.last b.0.floor, pairs-fit own (after s (row c)) l (both_behind s c l b.1 p.0) p.1 h.1)
    where
      both_behind : (s : Run) (c : ℕ) (l : List ℕ) → Each (Behind s) l → Each (Sorted c) l → Each (Behind (after s (row c))) l
      both_behind s c [] b p = tt
      both_behind s c (d ∷ l) b p = (behind_more s c d b.0 p.0, both_behind s c l b.1 p.1)

  -- ---- pairs of members

  pub pairs-find : {X : Type 0} (l : List ℕ) (c d : ℕ) → Pairs l → 0 < count_if (eqb c) l → 0 < count_if (eqb d) l → c ≢ d → (Sorted c d → X) → (Sorted d c → X) → X
  pairs-find [] c d p h k ne f g = absurd (omega arith)
  pairs-find (x ∷ l) c d p h k ne f g = elim (test (eqb c x)) [
    | holds t ↦
        let e : c ≡ x = eqb→eq c x (true-is t) in
        let z : eqb d x ≡ false = ne_eqb d x (λ q. ne (e ∙ sym q)) in
        f (rw e (each_in (Sorted x) l p.0 d (omega (arith, rw z at k))))
    | fails t ↦ elim (test (eqb d x)) [
      | holds u ↦
          let e : d ≡ x = eqb→eq d x (true-is u) in
          g (rw e (each_in (Sorted x) l p.0 c (omega (arith, rw t at h))))
      | fails u ↦ pairs-find l c d p.1 (omega (arith, rw t at h)) (omega (arith, rw u at k)) ne f g
    ]
  ]

  pub pairs-ordered : (l : List ℕ) → Pairs l → Ordered (map (λ c. (row c).start) l)
  pairs-ordered [] p = tt
  pairs-ordered (c ∷ l) p = (starts l p.0, pairs-ordered l p.1)
    where
      starts : (l : List ℕ) → Each (Sorted c) l → Each (λ y. (row c).start ≤ y) (map (λ d. (row d).start) l)
      starts [] h = tt
      starts (d ∷ l) h = (h.0.starts, starts l h.1)

  pub pairs_of : (l : List ℕ) → Ordered (map (λ c. (row c).start) l) → ((i : ℕ) → count_if (eqb i) l ≤ 1) → ((c d : ℕ) → 0 < count_if (eqb c) l → 0 < count_if (eqb d) l → c ≢ d → (row c).start ≤ (row d).start → Sorted c d) → Pairs l
  pairs_of [] o u f = tt
  pairs_of (c ∷ l) o u f = (
    in-each (Sorted c) l (λ d h. f c d (omega (arith, self c)) (omega arith) (λ e. omega (arith, u d, one_of d c (sym e))) (start l o.0 d h)),
    pairs_of l o.1 (λ i. omega (arith, u i)) (λ a b h k. f a b (omega arith) (omega arith)),
  )
    where
      self : (c : ℕ) → one_if (eqb c c) ≡ 1
      self c = rw (eq-eqb c c refl)

      one_of : (d c : ℕ) → d ≡ c → one_if (eqb d c) ≡ 1
      one_of d c e = rw (eq-eqb d c e)

      start : (l : List ℕ) → Each (λ y. (row c).start ≤ y) (map (λ d. (row d).start) l) → (d : ℕ) → 0 < count_if (eqb d) l → (row c).start ≤ (row d).start
      start [] h d k = absurd (omega arith)
      start (x ∷ l) h d k = elim (test (eqb d x)) [
        | holds t ↦ rw (eqb→eq d x (true-is t)) h.0
        | fails t ↦ start l h.1 d (omega (arith, rw t at k))
      ]
