-- The steps of the functions: what the values that they read make of their definitions.
use Rattle.std.specs.Prelude.{◌≡◌, refl, ℕ, ◌+◌, ◌-◌, ◌*◌, ◌≤◌, Bool, List, length, take, replicate}
use Rattle.std.proofs.Common.{ap, ◌∙◌, arith, length-take}
use Rattle.words.specs.Cuts.{offset}
use Rattle.words.specs.Zeros.{take-zeros}
use Rattle.tables.specs.Tables.{Tables}
use Rattle.sizes.specs.declared.Sizes.{Sizes}
use Rattle.tables.specs.View.{view, of_parts, Sized}
use Rattle.sizes.specs.Sizes.{sizes_of, total}
use Rattle.arena.specs.Arena.{capacity_of}
use Rattle.claims.specs.Claims.{claims_hold}
use Rattle.sound_capas.specs.Capas.{capa_claim, capas_hold}

-- ---- sizes

pub sizes-seen : (t : List ℕ) → sizes_of t ≡ (view t).sizes
unfolding view of_parts
sizes-seen t = refl

-- ---- the marks are a part of the work area

pub lent-clear : (w : List ℕ) (m : ℕ) → w ≡ replicate (length w) 0 → m ≤ length w → take m w ≡ replicate (length (take m w)) 0
lent-clear w m e h =
    let s : length w ≡ m + (length w - m) = omega arith in
    let l : m ≡ length (take m w) = simp length-take (omega arith) in
    ap (take m) (e ∙ ap (λ k. replicate k 0) s) ∙ take-zeros m (length w - m) ∙ ap (λ k. replicate k 0) l

pub marks-fit : (t : List ℕ) → Sized t → (sizes_of t).regions + (sizes_of t).domains ≤ length t
unfolding total offset
marks-fit t s = omega (arith, s.exact)

-- ---- the test

pub capas-are : (v : Tables) (z : Sizes) (r : Bool) (a used b want k : ℕ) → z ≡ v.sizes → a ≡ capacity_of v.region_pool → used ≡ z.regions + z.domains - a → b ≡ capacity_of v.domain_pool → want ≡ used - b
    → k ≡ z.regions + z.domains → r ≡ claims_hold (capa_claim v) k (v.sizes.domains * (v.sizes.slots + 1)) want → r ≡ capas_hold v
unfolding capas_hold
capas-are v z r a used b want k ez ea eu eb ew ek er = rw (er, ek, ew, eu, ea, eb, ez)
