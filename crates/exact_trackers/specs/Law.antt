-- Laws: tables pass the test of the trackers exactly where each live domain's tracker is as **Sound** says.
use Rattle.std.specs.Prelude.{◌≡◌, refl, ◌↔◌, ℕ, zero, suc, ◌+◌, ◌≤◌, ◌<◌, true, false, List, ◌∷◌, map, take}
use Rattle.std.proofs.Common.{sym, ◌∙◌, arith}
use Rattle.std.proofs.Math.Path.{ap}
use Rattle.std.proofs.Math.Seq.{take_all}
use Rattle.base.specs.Cases.{holds, fails, test}
use Rattle.base.specs.Tests.{both, all_from, all-at, at_all}
use Rattle.model.specs.Lists.{In}
use Rattle.model.specs.State as state
use Rattle.model.specs.State.{Record}
use Rattle.model.specs.Sound.{RegionSound, OwnerSound, TrackerSound}
use Rattle.sizes.specs.Sizes.{total}
use Rattle.words.specs.Cuts.{offset}
use Rattle.tables.specs.declared.Region.{Region}
use Rattle.tables.specs.Tables.{Tables, head_at, record_at}
use Rattle.decoded.specs.Shape.{Shaped}
use Rattle.decoded.specs.Decode.Read.{chain_from, record_from, taken, domain_read, domains_from, regions_from, state_of}
use Rattle.decoded.specs.Canonical.Ends.{chain_end}
use Rattle.decoded.specs.Canonical.Pools.{table-in, table-used, taken-used, not_taken, regions-many}
use Rattle.decoded.specs.Canonical.WellFormed.{domain_row, record_row}
use Rattle.sweep.specs.Events.{starts, ends}
use Rattle.sweep.specs.Sweep.{sweep}
use Rattle.sweep.specs.Sort.{sort}
use Rattle.sweep.proofs.Slots.{listed, OneSlot}
use Rattle.sweep.proofs.Room.{listed-room}
use Rattle.sweep.proofs.Tracker.{tracker-exact}
use Rattle.sound_events.specs.Events.{gaps}
use Rattle.sound_sweep.specs.Records.{chained}
use Rattle.sound_trackers.specs.Trackers.{room, kept, tracker, domain_holds, all_hold, trackers_hold}
use Rattle.exact_trackers.specs.Slots.{region_pool, domain-is}

-- What is tested before: the walk along each tracker ends, the region tree is sound, each live region has one Region slot, in its domain.
pub record Before (v : Tables) : Type 0 where
  pub shaped : Shaped v
  pub trackers_end : (d : ℕ) → d < v.sizes.domains → taken v.domain_pool d ≡ true → chain_end (λ i. (record_row v i).next) v.sizes.records (domain_row v d).head.tracker ≡ 0
  pub regions : (i : ℕ) (g : state.Region) → In (state_of v).regions i g → RegionSound (state_of v).regions i g
  pub owners : (i : ℕ) (g : state.Region) → In (state_of v).regions i g → OwnerSound (state_of v).region_pool (state_of v).domains i g

-- every tracker of the state that is read is sound
abbrev pub TrackersClause : Tables → Type 0
TrackersClause v = (d : ℕ) (x : state.Domain) → In (state_of v).domains d x → TrackerSound (state_of v).regions d x.tracker

-- ---- what is swept

chained-is : (f : ℕ → Region) (n k : ℕ) → chained f n k ≡ map (λ i. record_from i (f i)) (chain_from (λ i. (f i).next) n k)
unfolding chained
chained-is f zero k = refl
chained-is f (suc n) zero = refl
chained-is f (suc n) (suc i) = ap (λ (l : List Record). record_from i (f i) ∷ l) (chained-is f n (f i).next)

-- a region takes fifteen words of the tables, so a quarter of them is more than two for each region
room-enough : (v : Tables) → v.sizes.regions + v.sizes.regions ≤ room v
unfolding total offset
room-enough v = omega arith

-- ---- one domain

module _ (v : Tables) (b : Before v) (d : ℕ) (x : state.Domain) (at : In (domains_from v) d x) where
  read : (d < v.sizes.domains) × (taken v.domain_pool d ≡ true) × (domain_read v d ≡ x)
  unfolding domains_from
  read = table-in v.sizes.domains v.domain_pool (domain_read v) d x at

  tracker-is : tracker v d ≡ x.tracker
  unfolding tracker head_at record_at
  tracker-is = chained-is (record_at v) v.sizes.records (head_at v d).tracker ∙ ap (λ (y : state.Domain). y.tracker) read.2

  one-slot : OneSlot (region_pool v) (regions_from v) d x.locals.held
  unfolding state_of
  one-slot i g e = (b.owners i g e).one_slot d x at

  -- there is room for all pieces
  kept-is : kept v d ≡ listed (region_pool v) (regions_from v) x.locals.held
  unfolding kept state_of
  kept-is =
      let few = listed-room (regions_from v) b.regions (region_pool v) d x.locals.held one-slot in
      ap (take (room v)) (domain-is v b.shaped b.regions d x at)
      ∙ take_all (room v) (listed (region_pool v) (regions_from v) x.locals.held) (omega (arith, few, regions-many v, room-enough v))

  holds-is : let ps = listed (region_pool v) (regions_from v) x.locals.held in domain_holds v d ≡ sweep x.tracker (sort gaps (starts ps)) (sort gaps (ends ps))
  unfolding domain_holds
  holds-is = rw (taken-used v.domain_pool d read.1) (λ i. sweep (tracker-is i) (sort gaps (starts (kept-is i))) (sort gaps (ends (kept-is i))))

  domain-exact : (domain_holds v d ≡ true) ↔ TrackerSound (regions_from v) d x.tracker
  unfolding state_of
  domain-exact =
      let e = tracker-exact (region_pool v) (regions_from v) d x.locals.held b.regions one-slot gaps x.tracker in
      (λ t. e.0 (sym holds-is ∙ t), λ s. holds-is ∙ e.1 s)

-- ---- all domains

all-is : (v : Tables) (n d : ℕ) → all_hold v n d ≡ all_from (domain_holds v) d n
unfolding all_hold all_from
all-is v zero d = refl
all-is v (suc n) d = ap (both (domain_holds v d)) (all-is v n (suc d))

passed-clause : (v : Tables) → Before v → trackers_hold v ≡ true → TrackersClause v
unfolding state_of trackers_hold
passed-clause v b t d x at =
    let n = v.sizes.domains in
    (domain-exact v b d x at).0 (all-at (domain_holds v) 0 n (sym (all-is v n 0) ∙ t) d (omega arith) (omega (arith, (read v b d x at).0)))

free-domain : (v : Tables) (d : ℕ) → taken v.domain_pool d ≡ false → domain_holds v d ≡ true
unfolding domain_holds
free-domain v d e = rw (not_taken v.domain_pool d e)

used-domain : (v : Tables) (d : ℕ) → d < v.sizes.domains → taken v.domain_pool d ≡ true → In (domains_from v) d (domain_read v d)
unfolding domains_from
used-domain v d h e = table-used v.sizes.domains v.domain_pool (domain_read v) d h e

clause-passes : (v : Tables) → Before v → TrackersClause v → trackers_hold v ≡ true
unfolding state_of trackers_hold
clause-passes v b c = all-is v v.sizes.domains 0 ∙ at_all (domain_holds v) 0 v.sizes.domains (λ d l h. elim (test (taken v.domain_pool d)) [
  | holds e ↦ let at = used-domain v d (omega arith) e in (domain-exact v b d (domain_read v d) at).1 (c d (domain_read v d) at)
  | fails e ↦ free-domain v d e
])

pub trackers-exact : (v : Tables) → Before v → (trackers_hold v ≡ true) ↔ TrackersClause v
trackers-exact v b = (passed-clause v b, clause-passes v b)
