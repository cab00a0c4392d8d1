-- The test of a free stack. Document 01, **Sound**: "every pool or list slot is in use or free once".
use Rattle.std.specs.Prelude.{ℕ, ◌-◌, Bool, List, [], eqb, ltb, leb, get_or}
use Rattle.std.proofs.Math.Option.{Option}
use Rattle.base.specs.Tests.{both}
use Rattle.tables.specs.Kinds.{FREE}
use Rattle.tables.specs.Tables.{Tables, head_at, slot_at, record_at}
use Rattle.list_links.specs.declared.Stack.{Stack}
use Rattle.list_links.specs.declared.Stack.TheVariants.{Domains, Regions, Records, Slots, Trackers}
use Rattle.list_links.specs.declared.Top.{Top}
use Rattle.list_links.specs.Walk.{link_to, met, covered}

-- ---- the free stacks of the three pools and of each domain's list; `Trackers` are the records in use, along all trackers

-- how many slots
abbrev pub slots_of : Tables → Stack → ℕ
slots_of v Domains = v.sizes.domains
slots_of v Regions = v.sizes.regions
slots_of v Records = v.sizes.records
slots_of v (Slots d) = v.sizes.slots
slots_of v Trackers = v.sizes.records

-- Is slot i free, or the record in use?
unfoldable pub eligible : Tables → Stack → ℕ → Bool
eligible v Domains i = ltb 0 (get_or v.domain_pool.links i 0)
eligible v Regions i = ltb 0 (get_or v.region_pool.links i 0)
eligible v Records i = ltb 0 (get_or v.record_pool.links i 0)
eligible v (Slots d) i = eqb (slot_at v d i).kind FREE
eligible v Trackers i = eqb (get_or v.record_pool.links i 0) 0

-- May a walk meet slot i?
unfoldable pub may_meet : Tables → Stack → ℕ → Bool
may_meet v s i = both (ltb i (slots_of v s)) (eligible v s i)

-- the link behind slot i
unfoldable pub next_of : Tables → Stack → ℕ → ℕ
next_of v Domains i = get_or v.domain_pool.links i 0
next_of v Regions i = get_or v.region_pool.links i 0
next_of v Records i = get_or v.record_pool.links i 0
next_of v (Slots d) i = link_to v.sizes.slots (slot_at v d i).handle.slot
next_of v Trackers i = (record_at v i).next

-- the slot that is given next, and how many are in use
unfoldable pub top_of : Tables → Stack → Top
top_of v Domains = record { head = v.domain_pool.head; count = v.domain_pool.count }
top_of v Regions = record { head = v.region_pool.head; count = v.region_pool.count }
top_of v Records = record { head = v.record_pool.head; count = v.record_pool.count }
top_of v (Slots d) = record { head = (head_at v d).head; count = (head_at v d).count }
top_of v Trackers = record { head = 0; count = 0 }

-- from link l on at most k slots, up to link e
abbrev pub met_in : Tables → Stack → ℕ → ℕ → ℕ → List ℕ → Option (List ℕ)
met_in v s e k l vs = met (next_of v s) (may_meet v s) e k l vs

abbrev pub covered_in : Tables → Stack → Option (List ℕ) → Bool
covered_in v s o = covered (may_meet v s) (slots_of v s) o

-- "in use or free once": as many steps as slots are free lead to slot 0, and past every free slot once
unfoldable pub stack_holds : Tables → Stack → Bool
stack_holds v s =
    both (leb (top_of v s).count (slots_of v s))
    (covered_in v s (met_in v s 1 (slots_of v s - (top_of v s).count) (link_to (slots_of v s) (top_of v s).head) []))
