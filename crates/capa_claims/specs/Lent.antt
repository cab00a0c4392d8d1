-- What the claims look at, lent as slices.
use Rattle.std.specs.Prelude.{◌≡◌, refl, List, ℕ}
use Rattle.std.proofs.Common.{ap, ◌∙◌}
use Rattle.sizes.specs.declared.Sizes.{Sizes}
use Rattle.tables.specs.declared.Slot.{Slot}
use Rattle.tables.specs.Tables.{Tables, Arena, region_at}
use Rattle.arena.specs.Arena.{live_b}
use Rattle.sections.specs.Rows.{region_in}
use Rattle.managers.specs.Managers.{manager_of, manager_in}
use Rattle.capa_claims.specs.CapaClaims.{Named, named, claim_by, region_claim, revoke_claim, management_claim, slot_claim}

-- a pool of which only links and generations are looked at
abbrev pub pooled : List ℕ → List ℕ → Arena
pooled links gens = record { head = 0; count = 0; links = links; gens = gens }

-- links, generations and rows of regions; links and generations of domains, and their section
abbrev pub lent : Sizes → List ℕ → List ℕ → List ℕ → List ℕ → List ℕ → List ℕ → Named
lent z rl rg r dl dg p = record { sizes = z; region_pool = pooled rl rg; domain_pool = pooled dl dg; region = region_in r; manager = manager_in z p }

-- the same of tables
abbrev pub lent_of : Tables → Named
lent_of v =
    record {
      sizes = v.sizes;
      region_pool = pooled v.region_pool.links v.region_pool.gens;
      domain_pool = pooled v.domain_pool.links v.domain_pool.gens;
      region = region_at v;
      manager = manager_of v;
    }

pub slot_lent : (v : Tables) (d : ℕ) (x : Slot) → slot_claim (lent_of v) d x ≡ slot_claim (named v) d x
unfolding slot_claim region_claim revoke_claim management_claim claim_by live_b
slot_lent v d x = refl

-- the slots of domain d, by number
abbrev pub list_claim : Named → ℕ → (ℕ → Slot) → ℕ → ℕ
list_claim n d slot j = slot_claim n d (slot j)

pub lent_is : (v : Tables) (z : Sizes) (rl rg r dl dg p : List ℕ) → z ≡ v.sizes → rl ≡ v.region_pool.links → rg ≡ v.region_pool.gens → region_in r ≡ region_at v → dl ≡ v.domain_pool.links → dg ≡ v.domain_pool.gens → manager_in v.sizes p ≡ manager_of v
    → lent z rl rg r dl dg p ≡ lent_of v
lent_is v z rl rg r dl dg p ez el eg er fl fg ep =
    let em : manager_in z p ≡ manager_of v = ap (λ (x : Sizes). manager_in x p) ez ∙ ep in
    λ i. record { sizes = ez i; region_pool = pooled (el i) (eg i); domain_pool = pooled (fl i) (fg i); region = er i; manager = em i }
