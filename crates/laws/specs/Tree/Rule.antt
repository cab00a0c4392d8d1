-- The alias rule and the carve rule as facts about the new region, from the tests over the parent's child list.
use Rattle.std.specs.Prelude.{◌≡◌, ℕ, ◌<◌, Bool, true, false, not, ◌&&◌, ◌||◌, List, [], ◌∷◌, map, T, eqb, ltb}
use Rattle.std.proofs.Common.{ap, arith, eqb→eq, leb→le, lt→ltb, T_not}
use Rattle.std.proofs.Math.Option.{Option, some}
use Rattle.std.specs.Float.Ieee.Fits.{and_l, and_r, and_i}
use Rattle.base.specs.Cases.{lt, ge, cmp, holds, fails, test}
use Rattle.base.specs.Tests.{true-is, false-is}
use Rattle.model.specs.Lists.{exists, count_if, In}
use Rattle.model.specs.State.{State, Region, parent_of, region_in}
use Rattle.model.specs.Tree
use Rattle.model.specs.Tree.{is_carve, access_of, overlaps, children_of, check_alias, check_carve}
use Rattle.laws.specs.Tree.Shares.{child_of, carve_of, child}
use Rattle.laws.specs.Tree.Facts.{Regions, Apart, Under, listing, carve-child, is-carve}

-- y may be added under p: it lies there, overlaps no carve of p, and if it is a carve no child of p
pub record Fits (rs : List (Option Region)) (p : ℕ) (y : Region) : Type 0 where
  pub hangs : parent_of y.kind ≡ some p
  pub under : Under rs p y
  pub off_carves : (k : ℕ) (z : Region) → In rs k z → 0 < carve_of z.kind p → Apart y z
  pub off_all : T (is_carve y.kind) → (k : ℕ) (z : Region) → In rs k z → 0 < child_of z.kind p → Apart y z

-- ---- tests over a list

not-or-l : (a b : Bool) → T (not (a || b)) → T (not a)
not-or-l true b t = t
not-or-l false b t = tt

not-or-r : (a b : Bool) → T (not (a || b)) → T (not b)
not-or-r true b t = absurd t
not-or-r false b t = t

-- no member passes the test
none_passes : (q : Region → Bool) (f : ℕ → Region) (ks : List ℕ) (k : ℕ) → T (not (exists q (map f ks))) → 0 < count_if (eqb k) ks → T (not (q (f k)))
none_passes q f [] k t h = absurd (omega arith)
none_passes q f (c ∷ ks) k t h = elim (test (eqb k c)) [
  | holds e ↦ rw (eqb→eq k c (true-is e)) (not-or-l (q (f c)) (exists q (map f ks)) t)
  | fails e ↦ none_passes q f ks k (not-or-r (q (f c)) (exists q (map f ks)) t) (omega (arith, rw e at h))
]

module _ (s : State) (ok : Regions s.regions) (p : ℕ) (h : Region) (e : In s.regions p h) (y : Region) where
  -- where each child that y overlaps passes the test, and no child passes it, y overlaps none
  off : (q : Region → Bool) → T (not (exists q (children_of s.regions h))) → (k : ℕ) (z : Region) → In s.regions k z → 0 < child_of z.kind p → (T (overlaps (access_of y) z) → T (q z)) → Apart y z
  off q t k z i c m l =
      let at : region_in s.regions k ≡ z = rw i in
      let on : 0 < count_if (eqb k) h.children = omega (arith, listing s.regions ok p h e k, ap (λ (x : Option Region). child x p) i) in
      let no : T (not (q z)) = rw at at (none_passes q (region_in s.regions) h.children k t on) in
      elim (cmp y.start z.end) [
        | lt u ↦ absurd (T_not (q z) no (m (and_i (ltb y.start z.end) (ltb z.start y.end) (lt→ltb y.start z.end u) (lt→ltb z.start y.end l))))
        | ge u ↦ u
      ]

  fits_under : T (Tree.fits (access_of y) h) → Under s.regions p y
  fits_under t = record { parent = h; is = e; low = leb→le _ _ (search (and_l, and_r)); high = leb→le _ _ (search (and_l, and_r)); rights = search (and_l, and_r) }

  module _ (q : parent_of y.kind ≡ some p) where
    abbrev alias-test : Region → Bool
    alias-test c = is_carve c.kind && overlaps (access_of y) c

    pub alias-fits : is_carve y.kind ≡ false → T (check_alias s h (access_of y)) → Fits s.regions p y
    alias-fits n t = record {
      hangs = q;
      under = fits_under (and_l (Tree.fits (access_of y) h) (not (exists alias-test (children_of s.regions h))) t);
      off_carves = λ k z i c. off alias-test (and_r (Tree.fits (access_of y) h) (not (exists alias-test (children_of s.regions h))) t) k z i (omega (arith, carve-child z.kind p)) (λ u. and_i (is_carve z.kind) (overlaps (access_of y) z) (is-carve z.kind p c) u);
      off_all = λ u. absurd (false-is n u);
    }

    off-all : T (check_carve s h (access_of y)) → (k : ℕ) (z : Region) → In s.regions k z → 0 < child_of z.kind p → Apart y z
    off-all t k z i d = off (overlaps (access_of y)) (and_r (Tree.fits (access_of y) h) (not (exists (overlaps (access_of y)) (children_of s.regions h))) t) k z i d (λ u. u)

    pub carve-fits : T (check_carve s h (access_of y)) → Fits s.regions p y
    carve-fits t = record {
      hangs = q;
      under = fits_under (and_l (Tree.fits (access_of y) h) (not (exists (overlaps (access_of y)) (children_of s.regions h))) t);
      off_carves = λ k z i c. off-all t k z i (omega (arith, carve-child z.kind p));
      off_all = λ c k z i d. off-all t k z i d;
    }
