-- The structured tables of a state have the words of that state, and a sound state's words show those tables.
use Rattle.std.specs.Prelude.{◌≡◌, refl, ℕ, zero, suc, ◌+◌, ◌-◌, ◌*◌, ◌%◌, List, [], ◌∷◌, ◌++◌, T, eqb, length, replicate}
use Rattle.std.proofs.Common.{sym, ap, subst, ◌∙◌, arith}
use Rattle.std.proofs.Math.Option.{Option, none, some}
use Rattle.std.proofs.Math.ListN.{get_elem?}
use Rattle.std.proofs.lemmas.List.{length-replicate, replicate-append-replicate}
use Rattle.base.specs.Cases.{holds, fails, test}
use Rattle.model.specs.Lists.{at_slot, count_up}
use Rattle.model.specs.State as state
use Rattle.model.specs.State.{State, Capa, no_capa, region, region_revoke, management, channel, permission, cleanup}
use Rattle.model.specs.Layout as model
use Rattle.model.specs.Layout.{words}
use Rattle.model.specs.Making.{good_sizes}
use Rattle.model.specs.Sound.{Sound}
use Rattle.laws.specs.Parts as parts
use Rattle.laws.specs.Words.Length as laws
use Rattle.words.specs.Rows.{flat}
use Rattle.words.specs.Cuts.{join}
use Rattle.tables.specs.declared.Region.{Region}
use Rattle.tables.specs.Tables.{Domain, no_slot}
use Rattle.tables.specs.View.{head_words, slot_words, region_words, record_words, update_words, hash_words, interface_words, mark_words, domain_words, arena_words, header_words, parts_of, layout, view, Sized, Left}
use Rattle.tables.specs.Layout.{words_are}
use Rattle.decoded.specs.Rows.{map-up-length, each_map, flat-map}
use Rattle.decoded.specs.Sizes.{good-limits}
use Rattle.decoded.specs.Shape.{PoolShaped, Shaped, view-layout, layout-sized}
use Rattle.decoded.specs.Tables.{pool_of, slot_for, head_for, domain_for, region_for, in_tracker_for, record_in, update_for, place_for, mark_for, region_hash_for, slot_hash, slot_interface, domains_for, regions_for, records_for, ring_for, hashes_for, interfaces_for, marks_for, tables_of}

-- ---- the words of each row

pool-words : (n : ℕ) (p : state.Pool) → arena_words (pool_of n p) ≡ model.pool_words n p
unfolding arena_words pool_of
pool-words n p = refl

slot-words : (free : List ℕ) (i : ℕ) (o : Option Capa) → slot_words (slot_for free i o) ≡ laws.slot_row free i o
slot-words free i none = refl
slot-words free i (some no_capa) = refl
slot-words free i (some (region h)) = refl
slot-words free i (some (region_revoke h)) = refl
slot-words free i (some (management h)) = refl
slot-words free i (some (channel h)) = refl

no-slots : (n : ℕ) → flat slot_words (replicate n no_slot) ≡ replicate (3 * n) 0
unfolding flat
no-slots zero = refl
no-slots (suc n) =
    let e : 3 + 3 * n ≡ 3 * suc n = omega arith in
    ap (λ (l : List ℕ). 0 ∷ 0 ∷ 0 ∷ l) (no-slots n) ∙ replicate-append-replicate 3 (3 * n) 0 ∙ ap (λ (k : ℕ). replicate k 0) e

domain-words : (n : ℕ) (o : Option state.Domain) → domain_words (domain_for n o) ≡ model.domain_words n o
unfolding domain_words
domain-words n none = ap (λ (l : List ℕ). 0 ∷ 0 ∷ 0 ∷ 0 ∷ 0 ∷ l) (no-slots n) ∙ replicate-append-replicate 5 (3 * n) 0
domain-words n (some x) =
    let l = x.locals in
    ap (λ (r : List ℕ). head_words (head_for n x) ++ r)
    (flat-map slot_words (λ i. slot_for l.free i (at_slot l.held i)) (model.slot_words l) (count_up 0 n) (λ i. slot-words l.free i (at_slot l.held i)))

region-words : (rs : List (Option state.Region)) (i : ℕ) (o : Option state.Region) → region_words (region_for rs i o) ≡ laws.region_row rs i o
region-words rs i none = refl
region-words rs i (some g) = refl

tracker-words : (i : ℕ) (l : List state.Record) (r : Region) (others : List ℕ) → record_words r ≡ others → record_words (in_tracker_for i l r) ≡ model.tracker_words i l others
tracker-words i [] r others e = e
tracker-words i (q ∷ l) r others e = elim (test (eqb i q.slot)) [ holds t ↦ rw t | fails t ↦ rw t (tracker-words i l r others e) ]

record-words : (ds : List (Option state.Domain)) (i : ℕ) → record_words (record_in ds i) ≡ model.record_slot_words ds i
record-words [] i = refl
record-words (none ∷ ds) i = record-words ds i
record-words (some x ∷ ds) i = tracker-words i x.tracker (record_in ds i) (model.record_slot_words ds i) (record-words ds i)

update-words : (o : Option state.Update) → update_words (update_for o) ≡ model.update_words o
update-words none = refl
update-words (some (permission h c m)) = refl
update-words (some (cleanup a b)) = refl

place-words : (n : ℕ) (q : state.Queue) (k : ℕ) → update_words (place_for n q k) ≡ model.place_words n q k
place-words n q k = update-words (get_elem? q.items ((k + (n + 1) - q.read_place) % (n + 1)))

hash-words : (o : Option state.Hash) → hash_words (region_hash_for o) ≡ laws.hash_row o
hash-words none = refl
hash-words (some x) = refl

slot-hash-words : (o : Option state.Region) → hash_words (slot_hash o) ≡ model.hash_words o
slot-hash-words none = refl
slot-hash-words (some g) = hash-words g.hash

interface-words : (o : Option state.Domain) → interface_words (slot_interface o) ≡ model.interface_words o
interface-words none = refl
interface-words (some x) = refl

mark-words : (o : Option state.Update) → mark_words (mark_for o) ≡ model.mark_words o
mark-words none = refl
mark-words (some (permission h c m)) = refl
mark-words (some (cleanup a b)) = refl

-- ---- the whole

parts-words : (s : State) → parts_of (tables_of s) ≡ laws.sections s
unfolding parts_of tables_of header_words domains_for regions_for records_for ring_for hashes_for interfaces_for marks_for
parts-words s =
    let z = s.sizes in
    let p₁ = pool-words z.domains s.domain_pool in
    let p₂ = pool-words z.regions s.region_pool in
    let p₃ = pool-words z.records s.record_pool in
    let p₄ = flat-map domain_words (λ i. domain_for z.slots (at_slot s.domains i)) _ (count_up 0 z.domains) (λ i. domain-words z.slots (at_slot s.domains i)) in
    let p₅ = flat-map region_words (λ i. region_for s.regions i (at_slot s.regions i)) _ (count_up 0 z.regions) (λ i. region-words s.regions i (at_slot s.regions i)) in
    let p₆ = flat-map record_words (record_in s.domains) _ (count_up 0 z.records) (record-words s.domains) in
    let p₇ = flat-map update_words (place_for z.updates s.queue) (model.place_words z.updates s.queue) (count_up 0 (z.updates + 1)) (place-words z.updates s.queue) in
    let p₈ = flat-map hash_words (λ i. slot_hash (at_slot s.regions i)) _ (count_up 0 z.regions) (λ i. slot-hash-words (at_slot s.regions i)) in
    let p₉ = flat-map interface_words (λ i. slot_interface (at_slot s.domains i)) _ (count_up 0 z.domains) (λ i. interface-words (at_slot s.domains i)) in
    let p₁₀ = flat-map mark_words (λ k. mark_for (model.at_place z.updates s.queue k)) _ (count_up 0 (z.updates + 1)) (λ k. mark-words (model.at_place z.updates s.queue k)) in
    λ i. model.header_words s ∷ p₁ i ∷ p₂ i ∷ p₃ i ∷ p₄ i ∷ p₅ i ∷ p₆ i ∷ p₇ i ∷ p₈ i ∷ p₉ i ∷ p₁₀ i ∷ []

same-join : (l : List (List ℕ)) → join l ≡ parts.join l
unfolding join
same-join [] = refl
same-join (p ∷ l) = ap (λ (r : List ℕ). p ++ r) (same-join l)

-- whatever the state
pub layout-tables : (s : State) → layout (tables_of s) ≡ words s
unfolding layout
layout-tables s = ap join (parts-words s) ∙ same-join (laws.sections s) ∙ sym (laws.words-join s)

-- ---- the shape of a state's tables

-- What the shape asks of a state: sound states have it, and so have those that a call meets on its way.
pub record Fits (s : State) : Type 0 where
  pub sizes_good : T (good_sizes s.sizes)
  pub domain_gens : length s.domain_pool.gens ≡ s.sizes.domains
  pub region_gens : length s.region_pool.gens ≡ s.sizes.regions
  pub record_gens : length s.record_pool.gens ≡ s.sizes.records

pub sound-fits : (s : State) → Sound s → Fits s
sound-fits s h = record { sizes_good = h.outside.sizes_good; domain_gens = h.outside.domain_pool.gens_length; region_gens = h.outside.region_pool.gens_length; record_gens = h.tracked.record_pool.gens_length }

pool-shaped : (n : ℕ) (p : state.Pool) → length p.gens ≡ n → PoolShaped n (pool_of n p)
unfolding pool_of
pool-shaped n p h = record { links = map-up-length (model.free_link p.free) n; gens = h }

pub slots-many : (n : ℕ) (o : Option state.Domain) → length (domain_for n o).slots ≡ n
slots-many n none = length-replicate n no_slot
slots-many n (some x) = map-up-length (λ i. slot_for x.locals.free i (at_slot x.locals.held i)) n

pub tables-shaped : (s : State) → Fits s → Shaped (tables_of s)
unfolding tables_of domains_for regions_for records_for ring_for hashes_for interfaces_for marks_for
tables-shaped s h =
    let z = s.sizes in
    record {
      limits = good-limits z h.sizes_good;
      domain_pool = pool-shaped z.domains s.domain_pool h.domain_gens;
      region_pool = pool-shaped z.regions s.region_pool h.region_gens;
      record_pool = pool-shaped z.records s.record_pool h.record_gens;
      domains = map-up-length (λ i. domain_for z.slots (at_slot s.domains i)) z.domains;
      slots = each_map _ (λ i. domain_for z.slots (at_slot s.domains i)) (count_up 0 z.domains) (λ i. slots-many z.slots (at_slot s.domains i));
      regions = map-up-length (λ i. region_for s.regions i (at_slot s.regions i)) z.regions;
      records = map-up-length (record_in s.domains) z.records;
      ring = map-up-length (place_for z.updates s.queue) (z.updates + 1);
      hashes = map-up-length (λ i. slot_hash (at_slot s.regions i)) z.regions;
      interfaces = map-up-length (λ i. slot_interface (at_slot s.domains i)) z.domains;
      marks = map-up-length (λ k. mark_for (model.at_place z.updates s.queue k)) (z.updates + 1);
    }

module _ (s : State) (h : Fits s) where
  pub fits-view : view (words s) ≡ tables_of s
  fits-view = ap view (sym (layout-tables s)) ∙ view-layout (tables_of s) (tables-shaped s h)

  pub fits-sized : Sized (words s)
  fits-sized = subst Sized (layout-tables s) (layout-sized (tables_of s) (tables-shaped s h))

  pub fits-held : (t : List ℕ) → t ≡ words s → Left t (tables_of s)
  fits-held t e = record { seen = ap view e ∙ fits-view; sized = subst Sized (sym e) fits-sized }

-- ---- sound states

module _ (s : State) (h : Sound s) where
  pub view-words : view (words s) ≡ tables_of s
  view-words = fits-view s (sound-fits s h)

  pub words-sized : Sized (words s)
  words-sized = fits-sized s (sound-fits s h)

  -- "the words are those of s" and "sized words that show the tables of s" are the same
  pub words-held : (t : List ℕ) → t ≡ words s → Left t (tables_of s)
  words-held = fits-held s (sound-fits s h)

pub held-words : (s : State) (t : List ℕ) → Left t (tables_of s) → t ≡ words s
held-words s t l = words_are t (tables_of s) l ∙ layout-tables s
