-- The words of the tables, section by section. docs/TABLES.md has the same as tables, with one written out: read it first. The state settles every word, and
-- for sound states the words settle the state (`words-unique`, crate laws).
-- D domains, S slots in each domain's list, R regions, T tracker records, U updates; slot numbers count from 0.
use Rattle.std.specs.Prelude.{ℕ, suc, ◌+◌, ◌-◌, ◌*◌, ◌%◌, eqb, length, replicate, if◌then◌else◌}
use Rattle.std.proofs.Math.Option.{Option, none, some, get_or}
use mathlib.Core.List.{List, [], ◌∷◌, ◌++◌, map, flat_map}
use Rattle.std.proofs.Math.ListN.{get_elem?}
use Rattle.model.specs.Lists.{one_if, exists, at_slot, count_up, first_of, after_in}
use Rattle.model.specs.State.{Sizes, Pool, Capa, no_capa, region, region_revoke, management, channel, LocalList, Record, Domain, Kind, Root, Alias, Carve, parent_of, Region, region_in, Update, permission, cleanup, Queue, State}

-- A link is a slot number + 1, or 0 for none.
abbrev pub link : Option ℕ → ℕ
link none = 0
link (some i) = suc i

-- In a stack of free slots a word is a slot number, and 0 for none too: the count of slots in use, stored beside it, tells where the stack ends.
abbrev pub slot_or0 : Option ℕ → ℕ
slot_or0 o = get_or o 0

-- ---- 1. header, 7 words

-- The ring's write place: read place and number of updates, going round; it has one place more than it can hold.
abbrev pub write_place : State → ℕ
write_place s = (s.queue.read_place + length s.queue.items) % (s.sizes.updates + 1)

-- D, S, R, T, U, the ring's read place, the ring's write place
abbrev pub header_words : State → List ℕ
header_words s = s.sizes.domains ∷ s.sizes.slots ∷ s.sizes.regions ∷ s.sizes.records ∷ s.sizes.updates ∷ s.queue.read_place ∷ write_place s ∷ []

-- ---- 2. domain pool, 3. region pool, 4. record pool, each over n slots, n being D, R or T: 2 + 2n words. Pools store the next free slot + 1, a domain's list
-- the slot itself.

-- 0 for a slot in use; for a free slot 1 + the free slot after it, and 1 for the last one (1 is slot 0 too: the count tells)
abbrev pub free_link : List ℕ → ℕ → ℕ
free_link free i = if exists (eqb i) free then suc (slot_or0 (after_in free i)) else 0

-- head: the slot that is given next; count: slots in use; n free links; n generations
abbrev pub pool_words : ℕ → Pool → List ℕ
pool_words n p = slot_or0 (first_of p.free) ∷ (n - length p.free) ∷ map (free_link p.free) (count_up 0 n) ++ p.gens

-- ---- 5. domains, D records of 5 + 3S words

-- a slot's kind, and two words: the handle's slot and generation; the kind of a free slot is 1
abbrev pub capa_words : Capa → List ℕ
capa_words no_capa = 0 ∷ 0 ∷ 0 ∷ []
capa_words (region h) = 2 ∷ h.slot ∷ h.generation ∷ []
capa_words (region_revoke h) = 3 ∷ h.slot ∷ h.generation ∷ []
capa_words (management h) = 4 ∷ h.slot ∷ h.generation ∷ []
capa_words (channel h) = 5 ∷ h.slot ∷ h.generation ∷ []

-- Slot i of a domain's list; a free one has the free slot after it, and 0 for the last (or slot 0: the count tells).
abbrev pub slot_words : LocalList → ℕ → List ℕ
slot_words l i = elim (at_slot l.held i) [ none ↦ 1 ∷ slot_or0 (after_in l.free i) ∷ 0 ∷ [] | some c ↦ capa_words c ]

-- manager (link), core map, first tracker record (link), head, count, then the n = S slots; a free domain's record is all zero
abbrev pub domain_words : ℕ → Option Domain → List ℕ
domain_words n none = replicate (5 + 3 * n) 0
domain_words n (some x) =
    link x.manager ∷ x.cores ∷ link (first_of (map (λ (q : Record). q.slot) x.tracker))
    ∷ slot_or0 (first_of x.locals.free) ∷ (n - length x.locals.free)
    ∷ flat_map (slot_words x.locals) (count_up 0 n)

-- ---- 6. regions, R records of 8 words

-- of a live region; that of a free one is 0
abbrev pub kind_word : Kind → ℕ
kind_word Root = 1
kind_word (Alias p) = 2
kind_word (Carve p) = 3

-- the child list that a region stands in: its parent's
abbrev pub siblings : List (Option Region) → Kind → List ℕ
siblings rs k = elim (parent_of k) [ none ↦ [] | some p ↦ (region_in rs p).children ]

-- kind, owner (link), parent (link), start, end, rights, first child (link), next sibling (link); a free region's record is all zero
abbrev pub region_words : List (Option Region) → ℕ → List ℕ
region_words rs i = elim (at_slot rs i) [
  | none ↦ replicate 8 0
  | some g ↦
      kind_word g.kind ∷ suc g.owner ∷ link (parent_of g.kind) ∷ g.start ∷ g.end ∷ g.rights
      ∷ link (first_of g.children) ∷ link (after_in (siblings rs g.kind) i) ∷ []
]

-- ---- 7. tracker records, T records of 9 words

-- start, end, reach, read, write, exec, super, uncacheable counts, next (link)
abbrev pub record_words : Record → Option ℕ → List ℕ
record_words q next =
    q.start ∷ q.end ∷ q.counts.reach ∷ q.counts.read ∷ q.counts.write ∷ q.counts.exec ∷ q.counts.super ∷ q.counts.uncacheable
    ∷ link next ∷ []

-- Slot i as it stands in one tracker; else as in the others.
abbrev pub tracker_words : ℕ → List Record → List ℕ → List ℕ
tracker_words i [] others = others
tracker_words i (q ∷ l) others = if eqb i q.slot then record_words q (first_of (map (λ (n : Record). n.slot) l)) else tracker_words i l others

-- Slot i; a free record is all zero.
abbrev pub record_slot_words : List (Option Domain) → ℕ → List ℕ
record_slot_words [] i = replicate 9 0
record_slot_words (none ∷ ds) i = record_slot_words ds i
record_slot_words (some x ∷ ds) i = tracker_words i x.tracker (record_slot_words ds i)

-- ---- 8. ring, U + 1 places of 4 words

-- kind, then domain slot, generation, core map; or start, end, 0
abbrev pub update_words : Option Update → List ℕ
update_words none = 0 ∷ 0 ∷ 0 ∷ 0 ∷ []
update_words (some (permission h cores marks)) = 1 ∷ h.slot ∷ h.generation ∷ cores ∷ []
update_words (some (cleanup a b)) = 2 ∷ a ∷ b ∷ 0 ∷ []

-- Place k: the queue's first update stands at the read place, the others follow it, going round. n is U; the read place is below n + 1, so that `-` is exact.
abbrev pub at_place : ℕ → Queue → ℕ → Option Update
at_place n q k = get_elem? q.items ((k + (n + 1) - q.read_place) % (n + 1))

abbrev pub place_words : ℕ → Queue → ℕ → List ℕ
place_words n q k = update_words (at_place n q k)

-- ---- 9. hashes, 5 words for each of the R regions (document 02, request 1)

-- 1 and the four words of the region's hash; five zeros where it has none, and where the slot is free
abbrev pub hash_words : Option Region → List ℕ
hash_words none = replicate 5 0
hash_words (some g) = elim g.hash [ none ↦ replicate 5 0 | some x ↦ 1 ∷ x.word0 ∷ x.word1 ∷ x.word2 ∷ x.word3 ∷ [] ]

-- ---- 10. interfaces, 2 words for each of the D domains (document 02, request 2)

-- the word, and 1 where it is frozen, else 0; two zeros where the slot is free
abbrev pub interface_words : Option Domain → List ℕ
interface_words none = replicate 2 0
interface_words (some x) = x.interface.word ∷ one_if x.interface.frozen ∷ []

-- ---- 11. marks, a word for each of the ring's U + 1 places (document 02, request 4)

-- the marks of the domain that is queued there; 0 for a range to be cleaned up, and where nothing is queued
abbrev pub mark_words : Option Update → List ℕ
mark_words none = 0 ∷ []
mark_words (some (permission h cores marks)) = marks ∷ []
mark_words (some (cleanup a b)) = 0 ∷ []

-- ---- the whole

-- The eleven sections. The ninth starts at word 17 + 7 D + 3 D S + 10 R + 11 T + 4 U, the tenth 5 R words further on, the eleventh 2 D words behind that.
unfoldable pub words : State → List ℕ
words s =
    header_words s
    ++ pool_words s.sizes.domains s.domain_pool
    ++ pool_words s.sizes.regions s.region_pool
    ++ pool_words s.sizes.records s.record_pool
    ++ flat_map (λ i. domain_words s.sizes.slots (at_slot s.domains i)) (count_up 0 s.sizes.domains)
    ++ flat_map (region_words s.regions) (count_up 0 s.sizes.regions)
    ++ flat_map (record_slot_words s.domains) (count_up 0 s.sizes.records)
    ++ flat_map (place_words s.sizes.updates s.queue) (count_up 0 (s.sizes.updates + 1))
    ++ flat_map (λ i. hash_words (at_slot s.regions i)) (count_up 0 s.sizes.regions)
    ++ flat_map (λ i. interface_words (at_slot s.domains i)) (count_up 0 s.sizes.domains)
    ++ flat_map (λ k. mark_words (at_place s.sizes.updates s.queue k)) (count_up 0 (s.sizes.updates + 1))

-- How many words they are (`words-length`, crate laws): what the tables' length must be, and the work area's.
abbrev pub length_for : Sizes → ℕ
length_for z =
    7 + (2 + 2 * z.domains) + (2 + 2 * z.regions) + (2 + 2 * z.records)
    + z.domains * (5 + 3 * z.slots) + 8 * z.regions + 9 * z.records + 4 * (z.updates + 1) + 5 * z.regions + 2 * z.domains + (z.updates + 1)
