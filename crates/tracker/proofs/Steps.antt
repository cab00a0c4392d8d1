-- The steps of the walks: what a turn's answer makes of the walk's, and a walk's of the whole gain or loss.
use mathlib.Core.Path.{◌≡◌, refl, sym, ap, ◌∙◌}
use mathlib.Core.List.{List}
use Prim.Native.Nat.{ℕ, suc, ◌+◌, ◌*◌, ◌-◌, ◌≤◌}
use native.Mathlib.Omega.{arith}
use lib.ListN.{get_or}
use Rattle.sizes.specs.Sizes.{sizes_of}
use Rattle.tables.specs.View.{view, of_parts, Sized, Left}
use Rattle.answers.specs.Answers.{Answer}
use Rattle.std.specs.Prelude.{Err}
use Rattle.refusals.specs.Refusals.{memory}
use Rattle.region.specs.declared.AccessRights.{AccessRights}
use Rattle.walk_cursors.specs.declared.Cursor.{Cursor}
use Rattle.walk_cursors.specs.Cursors.{Progress}
use Rattle.std.proofs.Common.{Continue, Break}
use Rattle.region.specs.declared.Way.{Way}
use Rattle.answers.specs.Then.{stays}
use Rattle.tracker_records.specs.Links.{first_link}
use Rattle.tracker.specs.Walks.{turn, walk, walked}

module _ (w : Way) (d : ℕ) (a : AccessRights) (t : List ℕ) where
  -- the number of turns and the first record as they are read from the words
  pub walk_start : (n k marks : ℕ) → n ≡ get_or t 3 0 → k ≡ first_link (view t) d
      → walk w d a (3 * n + 3) (record { prev = 0; at = k; start = a.start; marks = marks }) (view t) ≡ walked w d a marks (view t)
  unfolding walked view of_parts sizes_of
  walk_start n k marks en ek = rw (en, ek)

  pub walk_end : (c : Cursor) (n : ℕ) → n ≤ 0 → Sized t → (Err memory ≡ (walk w d a n c (view t)).answer) × Left t (walk w d a n c (view t)).tables
  unfolding walk
  walk_end c n h s = let e : n ≡ 0 = omega arith in rw e (refl, stays t s)

  -- one turn of m + 1
  module _ (c : Cursor) (n m : ℕ) (h : n ≡ suc m) (r : Progress) (u : List ℕ) (er : (r ≡ (turn w (view t) d a c).answer) × Left u (turn w (view t) d a c).tables) where
    pub walk-going : (k : Cursor) → r ≡ Continue k → walk w d a m k (view u) ≡ walk w d a n c (view t)
    unfolding walk
    walk-going k e = sym (ap (λ i. walk w d a i c (view t)) h ∙ rw (← er.0, e, er.1.seen, walk))

    pub walk-over : (x : Answer) → r ≡ Break x → (x ≡ (walk w d a n c (view t)).answer) × Left u (walk w d a n c (view t)).tables
    unfolding walk
    walk-over x e = rw (h, ← er.0, e, walk) (refl, er.1)
