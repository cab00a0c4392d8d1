-- A law: the words of sound tables are as many as the sizes say. Each row has its width, whatever it holds.
use Rattle.std.specs.Prelude.{◌≡◌, refl, ℕ, suc, ◌+◌, ◌*◌, eqb, length, drop, replicate}
use Rattle.std.proofs.Common.{ap, ◌∙◌, arith, length-append}
use Rattle.std.proofs.Math.Option.{Option, none, some}
use mathlib.Core.List.{List, [], ◌∷◌, map, flat_map}
use Rattle.std.proofs.lemmas.List.{length-map, length-replicate}
use Rattle.base.specs.Cases.{holds, fails, test}
use Rattle.model.specs.Lists.{at_slot, count_up, first_of, after_in}
use Rattle.model.specs.State.{Sizes, Pool, Capa, no_capa, region, region_revoke, management, channel, LocalList, Record, Domain, parent_of, Hash, Region, Update, permission, cleanup, Queue, State}
use Rattle.model.specs.Layout.{link, slot_or0, header_words, free_link, pool_words, capa_words, slot_words, domain_words, kind_word, siblings, region_words, tracker_words, record_slot_words, update_words, at_place, place_words, hash_words, interface_words, mark_words, words, length_for}
use Rattle.model.specs.Sound.{PoolSound, Sound}
use Rattle.laws.specs.Parts.{join, in-turn, sum, join-length, up-length, rows-length}

-- ---- the width of each row

capa-width : (c : Capa) → length (capa_words c) ≡ 3
capa-width no_capa = refl
capa-width (region h) = refl
capa-width (region_revoke h) = refl
capa-width (management h) = refl
capa-width (channel h) = refl

-- `slot_words` by what the slot holds; used only in proofs
abbrev pub slot_row : List ℕ → ℕ → Option Capa → List ℕ
slot_row free i o = elim o [ none ↦ 1 ∷ slot_or0 (after_in free i) ∷ 0 ∷ [] | some c ↦ capa_words c ]

slot-row-width : (free : List ℕ) (i : ℕ) (o : Option Capa) → length (slot_row free i o) ≡ 3
slot-row-width free i none = refl
slot-row-width free i (some c) = capa-width c

pub slot-width : (l : LocalList) (i : ℕ) → length (slot_words l i) ≡ 3
slot-width l i = slot-row-width l.free i (at_slot l.held i)

domain-row-width : (n : ℕ) (o : Option Domain) → length (domain_words n o) ≡ 5 + 3 * n
domain-row-width n none = length-replicate (5 + 3 * n) 0
domain-row-width n (some x) = omega (arith, rows-length 3 (slot_words x.locals) (slot-width x.locals) 0 n)

pub domain-width : (n : ℕ) (ds : List (Option Domain)) (i : ℕ) → length (domain_words n (at_slot ds i)) ≡ 5 + 3 * n
domain-width n ds i = domain-row-width n (at_slot ds i)

-- `region_words` by what the slot holds; used only in proofs
abbrev pub region_row : List (Option Region) → ℕ → Option Region → List ℕ
region_row rs i o = elim o [
  | none ↦ replicate 8 0
  | some g ↦
      kind_word g.kind ∷ suc g.owner ∷ link (parent_of g.kind) ∷ g.start ∷ g.end ∷ g.rights
      ∷ link (first_of g.children) ∷ link (after_in (siblings rs g.kind) i) ∷ []
]

region-row-width : (rs : List (Option Region)) (i : ℕ) (o : Option Region) → length (region_row rs i o) ≡ 8
region-row-width rs i none = refl
region-row-width rs i (some g) = refl

pub region-width : (rs : List (Option Region)) (i : ℕ) → length (region_words rs i) ≡ 8
region-width rs i = region-row-width rs i (at_slot rs i)

tracker-width : (i : ℕ) (l : List Record) (others : List ℕ) → length others ≡ 9 → length (tracker_words i l others) ≡ 9
tracker-width i [] others h = h
tracker-width i (q ∷ l) others h = elim (test (eqb i q.slot)) [ holds t ↦ rw t | fails t ↦ rw t (tracker-width i l others h) ]

pub record-width : (ds : List (Option Domain)) (i : ℕ) → length (record_slot_words ds i) ≡ 9
record-width [] i = refl
record-width (none ∷ ds) i = record-width ds i
record-width (some x ∷ ds) i = tracker-width i x.tracker (record_slot_words ds i) (record-width ds i)

update-width : (o : Option Update) → length (update_words o) ≡ 4
update-width none = refl
update-width (some (permission h c m)) = refl
update-width (some (cleanup a b)) = refl

pub place-width : (n : ℕ) (q : Queue) (k : ℕ) → length (place_words n q k) ≡ 4
place-width n q k = update-width (at_place n q k)

-- `hash_words` by the hash; used only in proofs
abbrev pub hash_row : Option Hash → List ℕ
hash_row o = elim o [ none ↦ replicate 5 0 | some x ↦ 1 ∷ x.word0 ∷ x.word1 ∷ x.word2 ∷ x.word3 ∷ [] ]

hash-row-width : (o : Option Hash) → length (hash_row o) ≡ 5
hash-row-width none = refl
hash-row-width (some x) = refl

region-hash-width : (o : Option Region) → length (hash_words o) ≡ 5
region-hash-width none = refl
region-hash-width (some g) = hash-row-width g.hash

pub hash-width : (rs : List (Option Region)) (i : ℕ) → length (hash_words (at_slot rs i)) ≡ 5
hash-width rs i = region-hash-width (at_slot rs i)

domain-interface-width : (o : Option Domain) → length (interface_words o) ≡ 2
domain-interface-width none = refl
domain-interface-width (some x) = refl

pub interface-width : (ds : List (Option Domain)) (i : ℕ) → length (interface_words (at_slot ds i)) ≡ 2
interface-width ds i = domain-interface-width (at_slot ds i)

update-mark-width : (o : Option Update) → length (mark_words o) ≡ 1
update-mark-width none = refl
update-mark-width (some (permission h c m)) = refl
update-mark-width (some (cleanup a b)) = refl

pub mark-width : (n : ℕ) (q : Queue) (k : ℕ) → length (mark_words (at_place n q k)) ≡ 1
mark-width n q k = update-mark-width (at_place n q k)

-- ---- the eleven sections

-- the sections, and how long each is; used only in proofs
abbrev pub sections : State → List (List ℕ)
sections s =
    header_words s
    ∷ pool_words s.sizes.domains s.domain_pool
    ∷ pool_words s.sizes.regions s.region_pool
    ∷ pool_words s.sizes.records s.record_pool
    ∷ flat_map (λ i. domain_words s.sizes.slots (at_slot s.domains i)) (count_up 0 s.sizes.domains)
    ∷ flat_map (region_words s.regions) (count_up 0 s.sizes.regions)
    ∷ flat_map (record_slot_words s.domains) (count_up 0 s.sizes.records)
    ∷ flat_map (place_words s.sizes.updates s.queue) (count_up 0 (s.sizes.updates + 1))
    ∷ flat_map (λ i. hash_words (at_slot s.regions i)) (count_up 0 s.sizes.regions)
    ∷ flat_map (λ i. interface_words (at_slot s.domains i)) (count_up 0 s.sizes.domains)
    ∷ flat_map (λ k. mark_words (at_place s.sizes.updates s.queue k)) (count_up 0 (s.sizes.updates + 1))
    ∷ []

abbrev pub widths : Sizes → List ℕ
widths z =
    7 ∷ (2 + 2 * z.domains) ∷ (2 + 2 * z.regions) ∷ (2 + 2 * z.records)
    ∷ z.domains * (5 + 3 * z.slots) ∷ z.regions * 8 ∷ z.records * 9 ∷ (z.updates + 1) * 4 ∷ z.regions * 5 ∷ z.domains * 2 ∷ (z.updates + 1) * 1 ∷ []

pub words-join : (s : State) → words s ≡ join (sections s)
unfolding words
words-join s = in-turn (header_words s) (drop 1 (sections s))

pool-length : (n : ℕ) (used : ℕ → ℕ) (p : Pool) → PoolSound n used p → length (pool_words n p) ≡ 2 + 2 * n
pool-length n used p h =
    let links = map (free_link p.free) (count_up 0 n) in
    omega (arith, length-append links p.gens, length-map (count_up 0 n) (free_link p.free), up-length 0 n, h.gens_length)

pub section-lengths : (s : State) → Sound s → map length (sections s) ≡ widths s.sizes
section-lengths s h =
    let z = s.sizes in
    let d = pool-length z.domains _ s.domain_pool h.outside.domain_pool in
    let r = pool-length z.regions _ s.region_pool h.outside.region_pool in
    let t = pool-length z.records _ s.record_pool h.tracked.record_pool in
    let ds = rows-length _ _ (domain-width z.slots s.domains) 0 z.domains in
    let rs = rows-length _ _ (region-width s.regions) 0 z.regions in
    let ts = rows-length _ _ (record-width s.domains) 0 z.records in
    let us = rows-length _ _ (place-width z.updates s.queue) 0 (z.updates + 1) in
    let hs = rows-length _ _ (hash-width s.regions) 0 z.regions in
    let fs = rows-length _ _ (interface-width s.domains) 0 z.domains in
    let ms = rows-length _ _ (mark-width z.updates s.queue) 0 (z.updates + 1) in
    λ i. 7 ∷ d i ∷ r i ∷ t i ∷ ds i ∷ rs i ∷ ts i ∷ us i ∷ hs i ∷ fs i ∷ ms i ∷ []

pub words-length : (s : State) → Sound s → length (words s) ≡ length_for s.sizes
words-length s h = ap length (words-join s) ∙ join-length (sections s) ∙ ap sum (section-lengths s h) ∙ omega arith
