-- The claims of all domains: the slots of each, and then its head.
use Rattle.std.specs.Prelude.{ℕ, ◌+◌, ◌-◌, ◌*◌, ◌/◌, ◌%◌, Bool, ltb}
use Rattle.base.specs.Cases.{pick}
use Rattle.tables.specs.Tables.{Tables, slot_at}
use Rattle.arena.specs.Arena.{is_free_b, capacity_of}
use Rattle.claims.specs.Claims.{claims_hold}
use Rattle.managers.specs.Managers.{manager_of}
use Rattle.capa_claims.specs.CapaClaims.{named, slot_claim, head_claim}

unfoldable pub row_claim : Tables → ℕ → ℕ → ℕ
row_claim v d j = pick (is_free_b v.domain_pool d) 0 (pick (ltb j v.sizes.slots) (slot_claim (named v) d (slot_at v d j)) (head_claim v.sizes (manager_of v) d))

unfoldable pub capa_claim : Tables → ℕ → ℕ
capa_claim v i = row_claim v (i / (v.sizes.slots + 1)) (i % (v.sizes.slots + 1))

-- the regions and domains in use
abbrev pub in_use : Tables → ℕ
in_use v = v.sizes.regions + v.sizes.domains - capacity_of v.region_pool - capacity_of v.domain_pool

unfoldable pub capas_hold : Tables → Bool
capas_hold v = claims_hold (capa_claim v) (v.sizes.regions + v.sizes.domains) (v.sizes.domains * (v.sizes.slots + 1)) (in_use v)
