-- The clauses about capabilities (document 01, **Sound**): each live region has one Region slot, in its domain; no RegionRevoke names a live root; each
-- live managed domain has one Management slot, in its manager's list, an unmanaged one has none, and managers form no circle; every other handle is
-- live or older than its slot's generation.
use Rattle.std.specs.Prelude.{ℕ, ◌+◌, ◌-◌, Bool, eqb, ltb}
use Rattle.base.specs.Cases.{pick}
use Rattle.base.specs.Tests.{both}
use Rattle.sizes.specs.declared.Sizes.{Sizes}
use Rattle.tables.specs.declared.Handle.{Handle}
use Rattle.tables.specs.declared.Slot.{Slot}
use Rattle.tables.specs.declared.RegionCapa.{RegionCapa}
use Rattle.tables.specs.Kinds.{REGION, REGION_REVOKE, MANAGEMENT, CHANNEL, ROOT}
use Rattle.tables.specs.Tables.{Tables, Arena, region_at}
use Rattle.arena.specs.Arena.{live_b, older_b}
use Rattle.managers.specs.Managers.{manager_of, climbed}

-- ---- numbers and links

-- the number of slot i of n slots behind `base`; `wrong` where there is no such slot
abbrev pub number : ℕ → ℕ → ℕ → ℕ → ℕ
number wrong base n i = pick (ltb i n) (base + i + 1) wrong

-- a claim that nothing has: region i has number i + 1, and domain i that number behind the regions
abbrev pub wrong : Sizes → ℕ
wrong z = z.regions + z.domains + 1

-- the link names slot d
abbrev pub names_b : ℕ → ℕ → Bool
names_b l d = both (ltb 0 l) (eqb (l - 1) d)

-- what a handle claims: `live` where it is live, nothing where it is older than its slot's generation
unfoldable pub claim_by : ℕ → Arena → Handle → ℕ → ℕ
claim_by bad a h live = pick (live_b a h) live (pick (older_b a h) 0 bad)

-- ---- a slot of domain d

-- what slots and heads are held to: the sizes, the pools of regions and domains, the rows of regions, each domain's link to its manager
pub record Named : Type 0 where
  pub sizes : Sizes
  pub region_pool : Arena
  pub domain_pool : Arena
  pub region : ℕ → RegionCapa
  pub manager : ℕ → ℕ

abbrev pub named : Tables → Named
named v = record { sizes = v.sizes; region_pool = v.region_pool; domain_pool = v.domain_pool; region = region_at v; manager = manager_of v }

-- "each live region has one Region slot, in its domain"
unfoldable pub region_claim : Sizes → Arena → (ℕ → RegionCapa) → ℕ → Handle → ℕ
region_claim z a region d h = claim_by (wrong z) a h (pick (names_b (region h.slot).owner d) (number (wrong z) 0 z.regions h.slot) (wrong z))

-- "no RegionRevoke names a live root"
unfoldable pub revoke_claim : Sizes → Arena → (ℕ → RegionCapa) → Handle → ℕ
revoke_claim z a region h = claim_by (wrong z) a h (pick (eqb (region h.slot).kind ROOT) (wrong z) 0)

-- "each live managed domain has one Management slot, in its manager's list"
unfoldable pub management_claim : Sizes → Arena → (ℕ → ℕ) → ℕ → Handle → ℕ
management_claim z a manager d h = claim_by (wrong z) a h (pick (names_b (manager h.slot) d) (number (wrong z) z.regions z.domains h.slot) (wrong z))

-- a channel names any domain
unfoldable pub slot_claim : Named → ℕ → Slot → ℕ
slot_claim n d x =
    pick (eqb x.kind REGION) (region_claim n.sizes n.region_pool n.region d x.handle)
    (pick (eqb x.kind REGION_REVOKE) (revoke_claim n.sizes n.region_pool n.region x.handle)
    (pick (eqb x.kind MANAGEMENT) (management_claim n.sizes n.domain_pool n.manager d x.handle)
    (pick (eqb x.kind CHANNEL) (claim_by (wrong n.sizes) n.domain_pool x.handle 0) 0)))

-- ---- a domain's head

-- "managers form no circle"; an unmanaged domain claims itself, since no slot may
unfoldable pub head_claim : Sizes → (ℕ → ℕ) → ℕ → ℕ
head_claim z manager d =
    pick (eqb (climbed manager z.domains (manager d)) 0) (pick (eqb (manager d) 0) (number (wrong z) z.regions z.domains d) 0) (wrong z)
