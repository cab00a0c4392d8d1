-- The test of pools and slot lists, over that of a free stack and that of rows. Document 01, **Sound**: "each tracker record is on one list".
use Rattle.std.specs.Prelude.{ℕ, zero, suc, Bool, List, []}
use Rattle.std.proofs.Math.Option.{Option, none, some}
use Rattle.base.specs.Cases.{pick}
use Rattle.base.specs.Tests.{both}
use Rattle.tables.specs.Tables.{Tables, head_at}
use Rattle.list_links.specs.declared.Stack.{Stack}
use Rattle.list_links.specs.declared.Stack.TheVariants.{Domains, Regions, Records, Trackers}
use Rattle.list_links.specs.Stacks.{may_meet, met_in, covered_in, stack_holds}
use Rattle.sound_rows.specs.Hold.{rows_hold}

-- ---- "each tracker record is on one list"

abbrev pub onward : Option (List ℕ) → (List ℕ → Option (List ℕ)) → Option (List ℕ)
onward none f = none
onward (some vs) f = f vs

-- along the trackers of k domains from domain d on
unfoldable pub trackers_met : Tables → ℕ → ℕ → List ℕ → Option (List ℕ)
trackers_met v zero d vs = some vs
trackers_met v (suc k) d vs =
    pick (may_meet v Domains d) (trackers_met v k (suc d) vs)
    (onward (met_in v Trackers 0 v.sizes.records (head_at v d).tracker vs) (λ us. trackers_met v k (suc d) us))

unfoldable pub trackers_hold : Tables → Bool
trackers_hold v = covered_in v Trackers (trackers_met v v.sizes.domains 0 [])

-- ---- the pools

unfoldable pub pool_holds : Tables → Stack → Bool
pool_holds v s = both (stack_holds v s) (rows_hold v s)

-- the pools of domains and regions, with their rows and the slot lists
abbrev pub outside_pools_hold : Tables → Bool
outside_pools_hold v = both (pool_holds v Domains) (pool_holds v Regions)

-- the pool of records, with its rows, and the records in use along the trackers
abbrev pub record_pool_holds : Tables → Bool
record_pool_holds v = both (pool_holds v Records) (trackers_hold v)
