-- A list of places fitted to another length.
use Rattle.std.specs.Prelude.{ℕ, zero, suc, ◌<◌, ◌≤◌, ◌≡◌, refl, List, [], ◌∷◌, ◌++◌, length, get_or, set, replicate}
use Rattle.std.proofs.Common.{sym, ap, ◌∙◌, arith, length-set, ext_get_or, get_or-set_same, get_or-set_other}
use Rattle.std.proofs.Math.Decide.{ℕ_discrete}
use Rattle.ring.specs.declared.Entry.{Entry}
use Rattle.ring.specs.Ring.{no_entry}

-- n places: those of ps, and nothing past them
unfoldable pub fitted : ℕ → List Entry → List Entry
fitted zero ps = []
fitted (suc n) [] = no_entry ∷ fitted n []
fitted (suc n) (u ∷ ps) = u ∷ fitted n ps

pub length-fitted : (n : ℕ) (ps : List Entry) → length (fitted n ps) ≡ n
unfolding fitted
length-fitted zero ps = refl
length-fitted (suc n) [] = rw (length-fitted n [])
length-fitted (suc n) (u ∷ ps) = rw (length-fitted n ps)

pub get_or-fitted : (n : ℕ) (ps : List Entry) (k : ℕ) → k < n → get_or (fitted n ps) k no_entry ≡ get_or ps k no_entry
unfolding fitted
get_or-fitted zero ps k h = absurd (omega arith)
get_or-fitted (suc n) [] zero h = refl
get_or-fitted (suc n) (u ∷ ps) zero h = refl
get_or-fitted (suc n) [] (suc k) h = get_or-fitted n [] k (omega arith)
get_or-fitted (suc n) (u ∷ ps) (suc k) h = get_or-fitted n ps k (omega arith)

pub fitted-empty : (n : ℕ) → fitted n [] ≡ replicate n no_entry
unfolding fitted
fitted-empty zero = refl
fitted-empty (suc n) = ap (λ (l : List Entry). no_entry ∷ l) (fitted-empty n)

-- one place more
pub fitted-more : (n : ℕ) (ps : List Entry) (u : Entry) (i : ℕ) → length ps ≡ i → i < n → set (fitted n ps) i u ≡ fitted n (ps ++ (u ∷ []))
unfolding fitted
fitted-more zero ps u i e h = absurd (omega arith)
fitted-more (suc n) [] u zero e h = refl
fitted-more (suc n) [] u (suc i) e h = absurd (omega arith)
fitted-more (suc n) (p ∷ ps) u zero e h = absurd (omega arith)
fitted-more (suc n) (p ∷ ps) u (suc i) e h = ap (λ (l : List Entry). p ∷ l) (fitted-more n ps u i (omega arith) (omega arith))

-- fitted to more places and back
pub fitted-back : (m n : ℕ) (ps : List Entry) → length ps ≡ m → m ≤ n → fitted m (fitted n ps) ≡ ps
fitted-back m n ps e h =
    let long = length-fitted m (fitted n ps) in
    ext_get_or no_entry (fitted m (fitted n ps)) ps (long ∙ sym e) (λ k hk. get_or-fitted m (fitted n ps) k (omega arith) ∙ get_or-fitted n ps k (omega arith))

-- and back with place i set: past the n places nothing is set
pub fitted-set : (m n : ℕ) (ps : List Entry) (i : ℕ) (u : Entry) → length ps ≡ m → m ≤ n → fitted m (set (fitted n ps) i u) ≡ set ps i u
fitted-set m n ps i u e h =
    ext_get_or no_entry (fitted m (set (fitted n ps) i u)) (set ps i u) (length-fitted m (set (fitted n ps) i u) ∙ sym e ∙ sym (length-set ps i u)) (λ k hk.
    let low : k < m = omega (arith, length-fitted m (set (fitted n ps) i u)) in
    get_or-fitted m (set (fitted n ps) i u) k low ∙ elim (ℕ_discrete k i) [
      | yes d ↦ rw d (get_or-set_same (fitted n ps) i u no_entry (omega (arith, d, length-fitted n ps)) ∙ sym (get_or-set_same ps i u no_entry (omega (arith, d))))
      | no d ↦ get_or-set_other (fitted n ps) i k u no_entry d ∙ get_or-fitted n ps k (omega arith) ∙ sym (get_or-set_other ps i k u no_entry d)
    ])
