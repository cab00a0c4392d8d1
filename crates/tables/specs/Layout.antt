-- The words are those that the view lays out: sized words and their view determine each other.
use Rattle.std.specs.Prelude.{◌≡◌, List, [], ◌∷◌, ◌++◌, ℕ, ◌+◌, ◌*◌, ◌≤◌, length, take, drop}
use Rattle.std.proofs.Common.{sym, ap, ◌∙◌, arith, length-drop, length-take, take-append-drop, take_all, drop-drop, get_or-take}
use Rattle.words.specs.Runs.{part}
use Rattle.words.specs.Rows.{rows, flat, flat_rows, spell, spelled, spell-drop}
use Rattle.words.specs.Cuts.{cuts, join, join-cuts, offset}
use Rattle.tables.specs.Tables.{Tables}
use Rattle.sizes.specs.Sizes.{sizes_of, widths, stride, total, header_section, domain_pool_section, region_pool_section, record_pool_section, domains_section, regions_section, records_section, ring_section, hash_section, interface_section, mark_section}
use Rattle.tables.specs.View.{view, of_parts, Sized, Left, head_of, head_words, slot_of, slot_words, region_of, region_words, record_of, record_words, update_of, update_words, hash_of, hash_words, interface_of, interface_words, mark_of, mark_words, domain_of, domain_words, arena_of, arena_words, header_words, parts_of, layout}
use Rattle.tables.specs.Sections.{section, section-length}

region-back : (p : List ℕ) → length p ≡ 8 → region_words (region_of p) ≡ p
unfolding spell
region-back p h = spelled p 8 h

slot-back : (p : List ℕ) → length p ≡ 3 → slot_words (slot_of p) ≡ p
unfolding spell
slot-back p h = spelled p 3 h

record-back : (p : List ℕ) → length p ≡ 9 → record_words (record_of p) ≡ p
unfolding spell
record-back p h = spelled p 9 h

update-back : (p : List ℕ) → length p ≡ 4 → update_words (update_of p) ≡ p
unfolding spell
update-back p h = spelled p 4 h

hash-back : (p : List ℕ) → length p ≡ 5 → hash_words (hash_of p) ≡ p
unfolding spell
hash-back p h = spelled p 5 h

interface-back : (p : List ℕ) → length p ≡ 2 → interface_words (interface_of p) ≡ p
unfolding spell
interface-back p h = spelled p 2 h

mark-back : (p : List ℕ) → length p ≡ 1 → mark_words (mark_of p) ≡ p
unfolding spell
mark-back p h = spelled p 1 h

domain-back : (n : ℕ) (p : List ℕ) → length p ≡ 5 + n * 3 → domain_words (domain_of n p) ≡ p
unfolding domain_words domain_of spell
domain-back n p h =
    let e : head_words (head_of (take 5 p)) ≡ take 5 p = spelled (take 5 p) 5 (simp length-take (omega arith)) in
    ap (λ (x : List ℕ). x ++ flat slot_words (rows 3 n slot_of (drop 5 p))) e
    ∙ ap (λ (x : List ℕ). take 5 p ++ x) (flat_rows 3 n slot_of slot_words slot-back (drop 5 p) (simp length-drop (omega arith)))
    ∙ take-append-drop 5 p

pub arena-back : (n : ℕ) (p : List ℕ) → length p ≡ 2 + (n + n) → arena_words (arena_of n p) ≡ p
unfolding arena_words arena_of spell part
arena-back n p h =
    let e : take n (drop (2 + n) p) ≡ drop (2 + n) p = take_all n (drop (2 + n) p) (simp length-drop (omega arith)) in
    rw (e, ← drop-drop n 2 p, take-append-drop n (drop 2 p)) (spell-drop p 2 (omega arith))

header-back : (t : List ℕ) → 7 ≤ length t → header_words (view t) ≡ take 7 t
unfolding header_words view of_parts sizes_of cuts spell
header-back t h =
    rw (← get_or-take 7 t 0 0 (omega arith), ← get_or-take 7 t 1 0 (omega arith), ← get_or-take 7 t 2 0 (omega arith), ← get_or-take 7 t 3 0 (omega arith), ← get_or-take 7 t 4 0 (omega arith))
    (spelled (take 7 t) 7 (simp length-take (omega arith)))

parts-back : (t : List ℕ) → Sized t → parts_of (view t) ≡ cuts (widths (sizes_of t)) t
unfolding parts_of view of_parts cuts total offset
parts-back t s =
    let z = sizes_of t in
    let e₀ : header_words (view t) ≡ section t header_section = header-back t (omega arith) in
    let e₁ : arena_words (arena_of z.domains (section t domain_pool_section)) ≡ section t domain_pool_section = arena-back z.domains (section t domain_pool_section) (section-length t domain_pool_section s) in
    let e₂ : arena_words (arena_of z.regions (section t region_pool_section)) ≡ section t region_pool_section = arena-back z.regions (section t region_pool_section) (section-length t region_pool_section s) in
    let e₃ : arena_words (arena_of z.records (section t record_pool_section)) ≡ section t record_pool_section = arena-back z.records (section t record_pool_section) (section-length t record_pool_section s) in
    let e₄ : flat domain_words (rows (stride z) z.domains (domain_of z.slots) (section t domains_section)) ≡ section t domains_section = flat_rows (stride z) z.domains (domain_of z.slots) domain_words (domain-back z.slots) (section t domains_section) (section-length t domains_section s) in
    let e₅ : flat region_words (rows 8 z.regions region_of (section t regions_section)) ≡ section t regions_section = flat_rows 8 z.regions region_of region_words region-back (section t regions_section) (section-length t regions_section s) in
    let e₆ : flat record_words (rows 9 z.records record_of (section t records_section)) ≡ section t records_section = flat_rows 9 z.records record_of record_words record-back (section t records_section) (section-length t records_section s) in
    let e₇ : flat update_words (rows 4 (z.updates + 1) update_of (section t ring_section)) ≡ section t ring_section = flat_rows 4 (z.updates + 1) update_of update_words update-back (section t ring_section) (section-length t ring_section s) in
    let e₈ : flat hash_words (rows 5 z.regions hash_of (section t hash_section)) ≡ section t hash_section = flat_rows 5 z.regions hash_of hash_words hash-back (section t hash_section) (section-length t hash_section s) in
    let e₉ : flat interface_words (rows 2 z.domains interface_of (section t interface_section)) ≡ section t interface_section = flat_rows 2 z.domains interface_of interface_words interface-back (section t interface_section) (section-length t interface_section s) in
    let e₁₀ : flat mark_words (rows 1 (z.updates + 1) mark_of (section t mark_section)) ≡ section t mark_section = flat_rows 1 (z.updates + 1) mark_of mark_words mark-back (section t mark_section) (section-length t mark_section s) in
    λ i. e₀ i ∷ e₁ i ∷ e₂ i ∷ e₃ i ∷ e₄ i ∷ e₅ i ∷ e₆ i ∷ e₇ i ∷ e₈ i ∷ e₉ i ∷ e₁₀ i ∷ []

pub layout-view : (t : List ℕ) → Sized t → layout (view t) ≡ t
unfolding layout total
layout-view t s = ap join (parts-back t s) ∙ join-cuts (widths (sizes_of t)) t s.exact

-- two runs of words with one view are one
pub determined : (t u : List ℕ) → Sized t → Sized u → view t ≡ view u → t ≡ u
determined t u st su e = sym (layout-view t st) ∙ ap layout e ∙ layout-view u su

-- a call that leaves the view leaves every word
pub unchanged : (t u : List ℕ) → Sized t → Left u (view t) → u ≡ t
unchanged t u s l = determined u t l.sized s l.seen

-- the words that a change leaves, said outright
pub words_are : (t : List ℕ) (s : Tables) → Left t s → t ≡ layout s
words_are t s l = sym (layout-view t l.sized) ∙ ap layout l.seen
