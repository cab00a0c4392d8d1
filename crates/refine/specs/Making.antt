-- The empty tables that the code makes are the model's.
use Rattle.std.specs.Prelude.{◌≡◌, refl, ℕ, zero, suc, ◌+◌, ◌-◌, ◌%◌, ◌<◌, List, [], ◌∷◌, map, length, replicate}
use Rattle.std.proofs.Common.{sym, ap, ◌∙◌, arith, mod-eq_of_lt}
use Rattle.std.proofs.Math.Option.{none}
use Rattle.std.proofs.Math.Nat.{add-mod_right}
use Rattle.model.specs.Lists.{at_slot, count_up, first_of}
use Rattle.base.specs.Cases.{lt, ge, cmp}
use Rattle.model.specs.State as state
use Rattle.model.specs.Layout.{words, slot_or0, free_link, at_place}
use Rattle.model.specs.Pool.{fresh_pool}
use Rattle.model.specs.Making.{empty_tables}
use Rattle.laws.specs.Parts.{up-length}
use Rattle.tables.specs.Tables.{empty_domain, no_region, no_record, no_update, no_hash, no_interface}
use Rattle.tables.specs.View.{layout}
use Rattle.arena.specs.Arena.{fresh_link, links_from, new_arena}
use Rattle.making.specs.Empty.{empty}
use Rattle.decoded.specs.Rows.{same_up, replicate-up}
use Rattle.laws.specs.Empty.{free-slot}
use Rattle.decoded.specs.Links.{up-link, up-last}
use Rattle.decoded.specs.Tables.{sizes_for, pool_of, domain_for, region_for, slot_hash, slot_interface, record_in, place_for, mark_for, domains_for, regions_for, records_for, ring_for, hashes_for, interfaces_for, marks_for, tables_of}
use Rattle.decoded.specs.Words.{layout-tables}

-- ---- a pool with every slot free

links-up : (n k m : ℕ) → map (fresh_link n) (count_up k m) ≡ links_from n k m
unfolding links_from
links-up n k zero = refl
links-up n k (suc m) = ap (λ (l : List ℕ). fresh_link n k ∷ l) (links-up n (suc k) m)

fresh-link : (n i : ℕ) → i < n → free_link (count_up 0 n) i ≡ fresh_link n i
unfolding fresh_link
fresh-link n i h = elim (cmp (suc i) n) [
  | lt l ↦
      let m : (i + 1) % n ≡ i + 1 = mod-eq_of_lt (omega arith) in
      up-link i 0 n (omega arith) (omega arith) ∙ omega (arith, m)
  | ge l ↦
      let m : (i + 1) % n ≡ 0 = ap (λ (x : ℕ). x % n) (omega arith) ∙ add-mod_right 0 n ∙ mod-eq_of_lt (omega arith) in
      up-last i 0 n (omega arith) (omega arith) ∙ omega (arith, m)
]

pub fresh-head : (n : ℕ) → slot_or0 (first_of (count_up 0 n)) ≡ 0
fresh-head zero = refl
fresh-head (suc n) = refl

pub fresh-pool : (n : ℕ) → pool_of n (fresh_pool n) ≡ new_arena n
unfolding pool_of new_arena
fresh-pool n =
    let c : n - length (count_up 0 n) ≡ 0 = omega (arith, up-length 0 n) in
    let l = same_up (free_link (count_up 0 n)) (fresh_link n) n (fresh-link n) ∙ links-up n 0 n in
    λ i. record { head = fresh-head n i; count = c i; links = l i; gens = replicate n 0 }

-- ---- the whole

no_record_lem : (n i : ℕ) → record_in (replicate n none) i ≡ no_record
no_record_lem zero i = refl
no_record_lem (suc n) i = no_record_lem n i

pub empty-tables : (z : state.Sizes) → tables_of (empty_tables z) ≡ empty (sizes_for z)
unfolding tables_of empty empty_domain domains_for regions_for records_for ring_for hashes_for interfaces_for marks_for
empty-tables z =
    let w : (0 + 0) % (z.updates + 1) ≡ 0 = mod-eq_of_lt (omega arith) in
    let p₁ = fresh-pool z.domains in
    let p₂ = fresh-pool z.regions in
    let p₃ = fresh-pool z.records in
    let p₄ = replicate-up (λ i. domain_for z.slots (at_slot (replicate z.domains none) i)) (empty_domain (sizes_for z)) z.domains (λ i h. ap (domain_for z.slots) (free-slot z.domains i)) in
    let p₅ = replicate-up (λ i. region_for (replicate z.regions none) i (at_slot (replicate z.regions none) i)) no_region z.regions (λ i h. ap (region_for (replicate z.regions none) i) (free-slot z.regions i)) in
    let p₆ = replicate-up (record_in (replicate z.domains none)) no_record z.records (λ i h. no_record_lem z.domains i) in
    let p₇ = replicate-up (place_for z.updates (record { read_place = 0; items = [] })) no_update (z.updates + 1) (λ i h. refl) in
    let p₈ = replicate-up (λ i. slot_hash (at_slot (replicate z.regions none) i)) no_hash z.regions (λ i h. ap slot_hash (free-slot z.regions i)) in
    let p₉ = replicate-up (λ i. slot_interface (at_slot (replicate z.domains none) i)) no_interface z.domains (λ i h. ap slot_interface (free-slot z.domains i)) in
    let p₁₀ = replicate-up (λ k. mark_for (at_place z.updates (record { read_place = 0; items = [] }) k)) 0 (z.updates + 1) (λ i h. refl) in
    λ i. record { sizes = sizes_for z; read = 0; write = w i; domain_pool = p₁ i; region_pool = p₂ i; record_pool = p₃ i; domains = p₄ i; regions = p₅ i; records = p₆ i; ring = p₇ i; hashes = p₈ i; interfaces = p₉ i; marks = p₁₀ i }

-- what `make_empty` leaves
pub empty-words : (z : state.Sizes) → layout (empty (sizes_for z)) ≡ words (empty_tables z)
empty-words z = ap layout (sym (empty-tables z)) ∙ layout-tables (empty_tables z)
