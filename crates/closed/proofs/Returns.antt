-- What a count loses and what returns to it: a region that is left counts wherever it counted, since no carve is new.
use Rattle.std.specs.Prelude.{◌≡◌, ℕ, suc, ◌+◌, Bool, true, false, not, ◌&&◌, T, if◌then◌else◌}
use Rattle.std.proofs.Math.Path.{refl}
use Rattle.std.proofs.Math.Option.{Option, none, some}
use mathlib.Core.List.{List, [], ◌∷◌}
use native.Mathlib.Omega.{arith}
use Rattle.std.proofs.Math.Dec.{eqb, T_not, not_T}
use Rattle.std.specs.Float.Ieee.Fits.{and_l, and_r, and_i}
use Rattle.base.specs.Cases.{holds, fails, test}
use Rattle.base.specs.Tests.{true-is, or_l, or_r}
use Rattle.model.specs.Lists.{one_if, exists}
use Rattle.model.specs.State.{State, Region}
use Rattle.model.specs.Fields.{Field, passes}
use Rattle.model.specs.Counts.{holds as covers, carves, counts_for, tally, region_count}
use Rattle.closed.specs.Ends.{dies, left_from, regions_left, goes, returns, count_regions, lost, returned}

-- one region: it counted or not, it counts among those that are left or not, it dies or not, it passes the test or not
one-region : (was is gone pass : Bool) → (T was → T is) → (if gone then 0 else one_if (is && pass)) + one_if ((was && gone) && pass) ≡ one_if (was && pass) + one_if ((not gone && not was && is) && pass)
one-region true true true true h = refl
one-region true true true false h = refl
one-region true true false true h = refl
one-region true true false false h = refl
one-region true false gone pass h = absurd (h tt)
one-region false true true true h = refl
one-region false true true false h = refl
one-region false true false true h = refl
one-region false true false false h = refl
one-region false false true true h = refl
one-region false false true false h = refl
one-region false false false true h = refl
one-region false false false false h = refl

-- a slot of the table whose region dies is not counted
tally-none : (rs : List (Option Region)) (e a : ℕ) (t : ℕ → Bool) (i : ℕ) (b : Bool) (l : List (Option Region)) → tally rs e a t i ((if b then none else none) ∷ l) ≡ tally rs e a t (suc i) l
tally-none rs e a t i true l = refl
tally-none rs e a t i false l = refl

tally-some : (rs : List (Option Region)) (e a : ℕ) (t : ℕ → Bool) (i : ℕ) (b : Bool) (g : Region) (l : List (Option Region)) → tally rs e a t i ((if b then none else some g) ∷ l) ≡ (if b then 0 else one_if (counts_for rs e a i g && t g.rights)) + tally rs e a t (suc i) l
tally-some rs e a t i true g l = omega arith
tally-some rs e a t i false g l = refl

module _ (s : State) (taken : ℕ → Bool) where
  carve-slot : (i a : ℕ) (b : Bool) (x : Option Region) (l m : List (Option Region)) → (T (exists (carves i a) m) → T (exists (carves i a) l)) → T (exists (carves i a) ((if b then none else x) ∷ m)) → T (exists (carves i a) (x ∷ l))
  carve-slot i a true x l m h t = or_r (carves i a x) (exists (carves i a) l) (h t)
  carve-slot i a false x l m h t = elim (test (carves i a x)) [
    | holds o ↦ or_l (carves i a x) (exists (carves i a) l) (true-is o)
    | fails o ↦ or_r (carves i a x) (exists (carves i a) l) (h (rw o at t))
  ]

  -- no carve is new
  carves-from : (i a j : ℕ) (l : List (Option Region)) → T (exists (carves i a) (left_from s taken j l)) → T (exists (carves i a) l)
  unfolding left_from
  carves-from i a j [] t = t
  carves-from i a j (x ∷ l) t = carve-slot i a (dies s taken j) x l (left_from s taken (suc j) l) (carves-from i a (suc j) l) t

  counts-still : (e a i : ℕ) (g : Region) → T (counts_for s.regions e a i g) → T (counts_for (regions_left s taken) e a i g)
  unfolding regions_left
  counts-still e a i g t =
      let here = eqb g.owner e && covers g.start g.end a in
      let was = exists (carves i a) s.regions in
      let is = exists (carves i a) (left_from s taken 0 s.regions) in
      and_i here (not is) (and_l here (not was) t) (not_T is (λ n. T_not was (and_r here (not was) t) (carves-from i a 0 s.regions n)))

  module _ (f : Field) (e a : ℕ) where
    changed-from : (j : ℕ) (l : List (Option Region)) → tally (regions_left s taken) e a (passes f) j (left_from s taken j l) + count_regions (λ i g. goes s taken e a i g && passes f g.rights) j l ≡ tally s.regions e a (passes f) j l + count_regions (λ i g. returns s taken e a i g && passes f g.rights) j l
    unfolding left_from
    changed-from j [] = refl
    changed-from j (none ∷ l) = omega (arith, tally-none (regions_left s taken) e a (passes f) j (dies s taken j) (left_from s taken (suc j) l), changed-from (suc j) l)
    changed-from j (some g ∷ l) = omega (
      arith,
      tally-some (regions_left s taken) e a (passes f) j (dies s taken j) g (left_from s taken (suc j) l),
      one-region (counts_for s.regions e a j g) (counts_for (regions_left s taken) e a j g) (dies s taken j) (passes f g.rights) (counts-still e a j g),
      changed-from (suc j) l,
    )

    pub changed-counts : region_count f (regions_left s taken) e a + lost s taken f e a ≡ region_count f s.regions e a + returned s taken f e a
    unfolding regions_left
    changed-counts = changed-from 0 s.regions
