-- Tables of the right shape are those that their words show: as many rows as the sizes say, and as many slots in each domain.
use Rattle.std.specs.Prelude.{◌≡◌, ℕ, ◌+◌, ◌*◌, length, take}
use Rattle.std.proofs.Math.Path.{refl, ap}
use Rattle.std.proofs.Common.{sym, ◌∙◌, arith, length-append, take_at, drop_at, take_all, drop-drop}
use mathlib.Core.List.{List, [], ◌∷◌, map}
use Rattle.model.specs.Lists.{Each}
use Rattle.words.specs.Runs.{part}
use Rattle.words.specs.Rows.{rows, flat}
use Rattle.words.specs.Cuts.{cuts, join, offset}
use Rattle.tables.specs.declared.Slot.{Slot}
use Rattle.tables.specs.Tables.{Tables, Arena, Domain}
use Rattle.sizes.specs.Limits.{Limits}
use Rattle.sizes.specs.Sizes.{sizes_of, widths, stride, pool_width, total, head_width, slot_width, region_width, record_width, update_width, hash_width, interface_width, mark_width}
use Rattle.tables.specs.View.{view, of_parts, Sized, slot_of, slot_words, region_of, region_words, record_of, record_words, update_of, update_words, hash_of, hash_words, interface_of, interface_words, mark_of, mark_words, domain_of, domain_words, arena_of, arena_words, header_words, parts_of, layout}
use Rattle.decoded.specs.Rows.{Read, each-any, flat-length, rows-flat, cuts-join}

-- a pool over n slots
pub record PoolShaped (n : ℕ) (a : Arena) : Type 0 where
  pub links : length a.links ≡ n
  pub gens : length a.gens ≡ n

pub record Shaped (x : Tables) : Type 0 where
  pub limits : Limits x.sizes
  pub domain_pool : PoolShaped x.sizes.domains x.domain_pool
  pub region_pool : PoolShaped x.sizes.regions x.region_pool
  pub record_pool : PoolShaped x.sizes.records x.record_pool
  pub domains : length x.domains ≡ x.sizes.domains
  pub slots : Each (λ d. length d.slots ≡ x.sizes.slots) x.domains
  pub regions : length x.regions ≡ x.sizes.regions
  pub records : length x.records ≡ x.sizes.records
  pub ring : length x.ring ≡ x.sizes.updates + 1
  pub hashes : length x.hashes ≡ x.sizes.regions
  pub interfaces : length x.interfaces ≡ x.sizes.domains
  pub marks : length x.marks ≡ x.sizes.updates + 1

-- ---- pools

arena-read : (n : ℕ) (a : Arena) → PoolShaped n a → Read (pool_width n) (arena_of n) arena_words a
unfolding arena_of arena_words part
arena-read n a h =
    let l = take_at a.links a.gens n h.links in
    let g = ap (take n) (sym (drop-drop n 2 (arena_words a)) ∙ drop_at a.links a.gens n h.links) ∙ take_all n a.gens (omega (arith, h.gens)) in
    (omega (arith, length-append a.links a.gens, h.links, h.gens), λ i. record { head = a.head; count = a.count; links = l i; gens = g i })

-- ---- domains

slots_read : (l : List Slot) → Each (Read 3 slot_of slot_words) l
slots_read l = each-any (Read 3 slot_of slot_words) l (λ x. (refl, refl))

domain-read : (n : ℕ) (d : Domain) → length d.slots ≡ n → Read (head_width + n * slot_width) (domain_of n) domain_words d
unfolding domain_of domain_words
domain-read n d h = (omega (arith, flat-length 3 slot_of slot_words d.slots (slots_read d.slots), ap (λ (k : ℕ). k * 3) h), ap (λ (l : List Slot). record { head = d.head; slots = l }) (rows-flat 3 n slot_of slot_words d.slots h (slots_read d.slots)))

domains-read : (n : ℕ) (l : List Domain) → Each (λ d. length d.slots ≡ n) l → Each (Read (head_width + n * slot_width) (domain_of n) domain_words) l
domains-read n [] h = tt
domains-read n (d ∷ l) h = (domain-read n d h.0, domains-read n l h.1)

-- ---- the whole

-- a table of n rows
table-read : {A : Type 0} (w n : ℕ) (f : List ℕ → A) (g : A → List ℕ) (l : List A) → length l ≡ n → Each (Read w f g) l → Read (n * w) (rows w n f) (flat g) l
table-read w n f g l h e = (flat-length w f g l e ∙ ap (λ (k : ℕ). k * w) h, rows-flat w n f g l h e)

join-lengths : (ps : List (List ℕ)) → length (join ps) ≡ offset (map length ps) (length (map length ps))
unfolding join offset
join-lengths [] = refl
join-lengths (p ∷ ps) = length-append p (join ps) ∙ ap (λ (k : ℕ). length p + k) (join-lengths ps)

module _ (x : Tables) (h : Shaped x) where
  -- each section but the header
  read₁ : Read (pool_width x.sizes.domains) (arena_of x.sizes.domains) arena_words x.domain_pool
  read₁ = arena-read x.sizes.domains x.domain_pool h.domain_pool

  read₂ : Read (pool_width x.sizes.regions) (arena_of x.sizes.regions) arena_words x.region_pool
  read₂ = arena-read x.sizes.regions x.region_pool h.region_pool

  read₃ : Read (pool_width x.sizes.records) (arena_of x.sizes.records) arena_words x.record_pool
  read₃ = arena-read x.sizes.records x.record_pool h.record_pool

  read₄ : Read (x.sizes.domains * stride x.sizes) (rows (stride x.sizes) x.sizes.domains (domain_of x.sizes.slots)) (flat domain_words) x.domains
  read₄ = table-read (stride x.sizes) x.sizes.domains (domain_of x.sizes.slots) domain_words x.domains h.domains (domains-read x.sizes.slots x.domains h.slots)

  read₅ : Read (x.sizes.regions * region_width) (rows region_width x.sizes.regions region_of) (flat region_words) x.regions
  read₅ = table-read 8 x.sizes.regions region_of region_words x.regions h.regions (each-any _ x.regions (λ r. (refl, refl)))

  read₆ : Read (x.sizes.records * record_width) (rows record_width x.sizes.records record_of) (flat record_words) x.records
  read₆ = table-read 9 x.sizes.records record_of record_words x.records h.records (each-any _ x.records (λ r. (refl, refl)))

  read₇ : Read ((x.sizes.updates + 1) * update_width) (rows update_width (x.sizes.updates + 1) update_of) (flat update_words) x.ring
  read₇ = table-read 4 (x.sizes.updates + 1) update_of update_words x.ring h.ring (each-any _ x.ring (λ r. (refl, refl)))

  read₈ : Read (x.sizes.regions * hash_width) (rows hash_width x.sizes.regions hash_of) (flat hash_words) x.hashes
  read₈ = table-read 5 x.sizes.regions hash_of hash_words x.hashes h.hashes (each-any _ x.hashes (λ r. (refl, refl)))

  read₉ : Read (x.sizes.domains * interface_width) (rows interface_width x.sizes.domains interface_of) (flat interface_words) x.interfaces
  read₉ = table-read 2 x.sizes.domains interface_of interface_words x.interfaces h.interfaces (each-any _ x.interfaces (λ r. (refl, refl)))

  read₁₀ : Read ((x.sizes.updates + 1) * mark_width) (rows mark_width (x.sizes.updates + 1) mark_of) (flat mark_words) x.marks
  read₁₀ = table-read 1 (x.sizes.updates + 1) mark_of mark_words x.marks h.marks (each-any _ x.marks (λ m. (refl, refl)))

  part-lengths : map length (parts_of x) ≡ widths x.sizes
  unfolding parts_of header_words
  part-lengths = λ i. 7 ∷ read₁.0 i ∷ read₂.0 i ∷ read₃.0 i ∷ read₄.0 i ∷ read₅.0 i ∷ read₆.0 i ∷ read₇.0 i ∷ read₈.0 i ∷ read₉.0 i ∷ read₁₀.0 i ∷ []

  parts_cut : cuts (widths x.sizes) (layout x) ≡ parts_of x
  unfolding layout
  parts_cut = cuts-join (widths x.sizes) (parts_of x) part-lengths

  sizes-seen : sizes_of (layout x) ≡ x.sizes
  unfolding sizes_of layout join parts_of header_words
  sizes-seen = refl

  pub view-layout : view (layout x) ≡ x
  unfolding view of_parts parts_of header_words
  view-layout =
      let all : of_parts x.sizes (parts_of x) ≡ x = λ i. record { sizes = x.sizes; read = x.read; write = x.write; domain_pool = read₁.1 i; region_pool = read₂.1 i; record_pool = read₃.1 i; domains = read₄.1 i; regions = read₅.1 i; records = read₆.1 i; ring = read₇.1 i; hashes = read₈.1 i; interfaces = read₉.1 i; marks = read₁₀.1 i } in
      rw sizes-seen (ap (of_parts x.sizes) parts_cut ∙ all)

  pub layout-sized : Sized (layout x)
  unfolding total layout
  layout-sized = record { limits = rw sizes-seen h.limits; exact = rw sizes-seen (join-lengths (parts_of x) ∙ ap (λ (l : List ℕ). offset l (length l)) part-lengths) }
