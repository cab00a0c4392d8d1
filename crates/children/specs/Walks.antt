-- One turn of the walk over a child list.
use Rattle.std.specs.Prelude.{◌≡◌, refl, Bool, true, false, List, get_or}
use Prim.Native.Nat.{ℕ, zero, suc, ◌-◌, ◌<◌}
use native.Mathlib.Omega.{arith}
use Rattle.std.proofs.Common.{eq-eqb, ne_eqb}
use Rattle.tables.specs.declared.RegionCapa.{RegionCapa}
use Rattle.tables.specs.Tables.{Tables, region_at}
use Rattle.sizes.specs.Sizes.{sizes_of}
use Rattle.tables.specs.View.{view, of_parts}
use Rattle.tables.specs.Links.{slot_to}
use Rattle.children.specs.declared.Place.{Place}
use Rattle.children.specs.declared.Search.{Search}
use Rattle.children.specs.Children.{ends_b, find_from}

-- how many regions there are, as the code reads it
pub regions-read : (t : List ℕ) → get_or t 2 0 ≡ (view t).sizes.regions
unfolding view of_parts sizes_of
regions-read t = refl

abbrev pub place : ℕ → ℕ → Place
place p k = record { prev = p; at = k }

pub find-out : (w : Search) (s : Tables) (n : ℕ) (c : Place) → n ≡ 0 → find_from w s n c ≡ c
unfolding find_from
find-out w s n c e = rw e

pub find_none : (w : Search) (s : Tables) (n p k : ℕ) → 0 < n → k ≡ 0 → find_from w s n (place p k) ≡ place p k
unfolding find_from
find_none w s zero p k h e = absurd (omega arith)
find_none w s (suc n) p k h e = rw (eq-eqb k 0 e)

module _ (w : Search) (s : Tables) (r : RegionCapa) (b : Bool) (n p k : ℕ) (h : 0 < n) (nk : k ≡ 0 → ⊥) (er : r ≡ region_at s (slot_to k)) (eb : b ≡ ends_b w k r) where
  pub find-here : b ≡ true → find_from w s n (place p k) ≡ place p k
  unfolding find_from
  find-here y = here n h
    where
      here : (n : ℕ) → 0 < n → find_from w s n (place p k) ≡ place p k
      here zero h = absurd (omega arith)
      here (suc n) h = rw (ne_eqb k 0 nk, ← er, ← eb, y)

  pub find-on : b ≡ false → find_from w s (n - 1) (place k r.next) ≡ find_from w s n (place p k)
  unfolding find_from
  find-on y = on n h
    where
      on : (n : ℕ) → 0 < n → find_from w s (n - 1) (place k r.next) ≡ find_from w s n (place p k)
      on zero h = absurd (omega arith)
      on (suc n) h = let e : suc n - 1 ≡ n = omega arith in rw (ne_eqb k 0 nk, ← er, ← eb, y, e)
