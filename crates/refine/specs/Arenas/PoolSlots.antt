-- Slots taken and freed: the pool changes, and with it the rows of the domain that is opened or freed, of the region that is made or freed. A new region has no hash, as the free slot had none.
use Rattle.std.specs.Prelude.{◌≡◌, ℕ, suc, ◌-◌, ◌^◌, ◌<◌, true, false, List, [], ◌∷◌, eqb, length, get_or, set}
use Rattle.std.proofs.Common.{sym, ◌∙◌, arith}
use Rattle.std.proofs.Math.Path.{ap}
use Rattle.std.proofs.Math.Bool.{not}
use Rattle.std.proofs.Math.Option.{none, some}
use Rattle.base.specs.Cases.{holds, fails, test, pick}
use Rattle.model.specs.Lists.{at_slot, In}
use Rattle.model.specs.Outcome.{Outcome, ok, refuse, ◌>>=◌, ◌>>◌, require}
use Rattle.refusals.specs.Refusals.{spent}
use Rattle.model.specs.State as state
use Rattle.model.specs.State.{State}
use Rattle.model.specs.Pool.{free}
use Rattle.model.specs.Sound.{PoolSound, slot_uses}
use Rattle.laws.specs.Lists.{not-used}
use Rattle.laws.specs.Tree.Slots.{in-length}
use Rattle.tables.specs.Tables.{Tables, Arena, empty_domain, no_region, no_hash, no_interface, with_domain_pool, with_region_pool, with_domains, without_domain, with_region, with_hash, with_interface}
use Rattle.arena.specs.Arena.{allocated, answer_to, frees_b, freed}
use Rattle.answers.specs.Answers.{Effect}
use Rattle.tracker_records.specs.Links.{freed_answer}
use Rattle.decoded.specs.Tables.{pool_of, domain_for, interface_for, region_for, region_hash_for, slot_hash, tables_of}
use Rattle.refine.specs.Agrees.{Agrees, agrees-call}
use Rattle.refine.specs.Arenas.Pools.{answer_by, pool_freed, allocated-first, first-inside, first-unused, answer-is, frees-is, freed-is}
use Rattle.decoded.specs.Tracker.Trackers.{tracker_of}
use Rattle.decoded.specs.Slots.Domains.{domain-set}
use Rattle.decoded.specs.Tree.Regions.{children_in, region-set, region-set-kept}

-- ---- slots taken

-- slot i is given next, and domain x or region g goes there
module _ (s : State) (i : ℕ) (is : List ℕ) where
  pub domain-opened : (x : state.Domain) → length s.domains ≡ s.sizes.domains → PoolSound s.sizes.domains (slot_uses s.domains) s.domain_pool → s.domain_pool.free ≡ i ∷ is → x.tracker ≡ []
      → tables_of (state.with_domains (record { gens = s.domain_pool.gens; free = is }) (set s.domains i (some x)) s)
      ≡ with_interface (with_domains (with_domain_pool (tables_of s) (allocated (pool_of s.sizes.domains s.domain_pool))) (set (tables_of s).domains i (domain_for s.sizes.slots (some x)))) i (interface_for x.interface)
  domain-opened x long h e t =
      let n = s.sizes.domains in
      let o = not-used (at_slot s.domains i) (first-unused n (slot_uses s.domains) s.domain_pool h i is e) in
      domain-set s long _ i (some x) (first-inside n (slot_uses s.domains) s.domain_pool h i is e) (t ∙ ap tracker_of (sym o))
      ∙ ap (λ a. with_interface (with_domains (with_domain_pool (tables_of s) a) (set (tables_of s).domains i (domain_for s.sizes.slots (some x)))) i (interface_for x.interface)) (sym (allocated-first n (slot_uses s.domains) s.domain_pool h i is e))

  pub region-made : (g : state.Region) → length s.regions ≡ s.sizes.regions → PoolSound s.sizes.regions (slot_uses s.regions) s.region_pool → s.region_pool.free ≡ i ∷ is → g.children ≡ [] → g.hash ≡ none
      → tables_of (state.with_regions (record { gens = s.region_pool.gens; free = is }) (set s.regions i (some g)) s)
      ≡ with_region (with_region_pool (tables_of s) (allocated (pool_of s.sizes.regions s.region_pool))) i (region_for s.regions i (some g))
  region-made g long h e c q =
      let n = s.sizes.regions in
      let o = not-used (at_slot s.regions i) (first-unused n (slot_uses s.regions) s.region_pool h i is e) in
      region-set-kept s long _ i (some g) (first-inside n (slot_uses s.regions) s.region_pool h i is e) (c ∙ ap children_in (sym o)) (ap region_hash_for q ∙ ap slot_hash (sym o))
      ∙ ap (λ a. with_region (with_region_pool (tables_of s) a) i (region_for s.regions i (some g))) (sym (allocated-first n (slot_uses s.regions) s.region_pool h i is e))

-- ---- slots freed

-- Slot i of a pool is freed: 16, or f of the pool that is left. The model has g of it, in the same tables.
module _ (n : ℕ) (used : ℕ → ℕ) (p : state.Pool) (h : PoolSound n used p) (i : ℕ) (l : i < n) (u : used i ≡ 1) (t : Tables) (f : Arena → Tables) (g : state.Pool → State) (same : (q : state.Pool) → f (pool_of n q) ≡ tables_of (g q)) where
  abbrev wipes : Effect
  wipes = record { answer = freed_answer (answer_to (pool_of n p) i); tables = pick (frees_b (pool_of n p) i) (f (freed (pool_of n p) i)) t }

  -- the model's pool, and what it goes on to
  abbrev less : state.Pool
  less = record { gens = set p.gens i (suc (get_or p.gens i 0)); free = i ∷ p.free }

  abbrev on : state.Pool → Outcome (ℕ × State)
  on q = ok (0, g q)

  free-no : eqb (get_or p.gens i 0) (2 ^ 64 - 1) ≡ true → free i p ≡ refuse spent
  unfolding free require ◌>>◌
  free-no z = rw z

  free-done : eqb (get_or p.gens i 0) (2 ^ 64 - 1) ≡ false → free i p ≡ ok less
  unfolding free require ◌>>◌
  free-done z = rw z

  pub wiped-refines : Agrees wipes (free i p >>= on)
  unfolding ◌>>=◌
  wiped-refines = elim (test (eqb (get_or p.gens i 0) (2 ^ 64 - 1))) [
    | holds z ↦ agrees-call wipes (free i p >>= on) (refuse spent) (ap (λ m. m >>= on) (free-no z)) (ap freed_answer (answer-is n used p h i l u ∙ ap answer_by (free-no z)))
    | fails z ↦ agrees-call wipes (free i p >>= on) (on less) (ap (λ m. m >>= on) (free-done z)) (
      ap freed_answer (answer-is n used p h i l u ∙ ap answer_by (free-done z)),
      ap (λ b. pick b (f (freed (pool_of n p) i)) t) (frees-is n used p h i l u ∙ ap not z) ∙ ap f (freed-is n used p h i l u ∙ ap (λ m. pool_of n (pool_freed p m)) (free-done z)) ∙ same less,
    )
  ]

-- region g in slot i has no children
pub region-freed : (s : State) → length s.regions ≡ s.sizes.regions → (i : ℕ) (g : state.Region) → In s.regions i g → g.children ≡ [] → (q : state.Pool)
    → with_hash (with_region (with_region_pool (tables_of s) (pool_of s.sizes.regions q)) i no_region) i no_hash ≡ tables_of (state.with_regions q (set s.regions i none) s)
region-freed s long i g at leaf q = sym (region-set s long q i none (omega (arith, in-length s.regions i g at, long)) (sym (ap children_in at ∙ leaf)))

-- domain x in slot d has no records
pub domain-freed : (s : State) → length s.domains ≡ s.sizes.domains → (d : ℕ) (x : state.Domain) → In s.domains d x → x.tracker ≡ [] → (q : state.Pool)
    → with_interface (without_domain (with_domain_pool (tables_of s) (pool_of s.sizes.domains q)) d) d no_interface ≡ tables_of (state.with_domains q (set s.domains d none) s)
unfolding without_domain empty_domain with_domain_pool tables_of
domain-freed s long d x at idle q = sym (domain-set s long q d none (omega (arith, in-length s.domains d x at, long)) (sym (ap tracker_of at ∙ idle)))
