-- A run that is filled place by place.
use mathlib.Core.Path.{◌≡◌, refl, ap}
use mathlib.Core.List.{List, [], ◌∷◌}
use Prim.Native.Nat.{ℕ, zero, suc}
use lib.ListN.{set}
use Rattle.readings.specs.Readings.{fill_run}

-- the list from place n on
abbrev pub fill_from : {A : Type 0} → ℕ → List A → List A → List A
fill_from zero l run = fill_run l run
fill_from (suc n) l [] = []
fill_from (suc n) l (y ∷ run) = y ∷ fill_from n l run

pub fill_none : {A : Type 0} (n : ℕ) (run : List A) → fill_from n [] run ≡ run
fill_none zero [] = refl
fill_none zero (y ∷ run) = refl
fill_none (suc n) [] = refl
fill_none (suc n) (y ∷ run) = ap (◌∷◌ y) (fill_none n run)

pub fill-put : {A : Type 0} (n : ℕ) (x : A) (l run : List A) → fill_from (suc n) l (set run n x) ≡ fill_from n (x ∷ l) run
fill-put zero x l [] = refl
fill-put zero x l (y ∷ run) = refl
fill-put (suc n) x l [] = refl
fill-put (suc n) x l (y ∷ run) = ap (◌∷◌ y) (fill-put n x l run)
