-- A state of the model written as structured tables: each field as the model's layout says, so that both have the same words.
use Rattle.std.specs.Prelude.{ℕ, suc, ◌+◌, ◌-◌, ◌%◌, List, [], ◌∷◌, map, eqb, length, replicate, if◌then◌else◌}
use Rattle.std.proofs.Math.Option.{Option, none, some}
use Rattle.std.proofs.Math.ListN.{get_elem?}
use Rattle.model.specs.Lists.{one_if, at_slot, count_up, first_of, after_in}
use Rattle.model.specs.State as state
use Rattle.model.specs.State.{State, Capa, no_capa, region, region_revoke, management, channel, parent_of, permission, cleanup}
use Rattle.model.specs.Layout.{link, slot_or0, free_link, kind_word, siblings, at_place, write_place}
use Rattle.sizes.specs.declared.Sizes.{Sizes}
use Rattle.tables.specs.declared.Handle.{Handle}
use Rattle.tables.specs.declared.DomainHead.{DomainHead}
use Rattle.tables.specs.declared.Slot.{Slot}
use Rattle.tables.specs.declared.RegionCapa.{RegionCapa}
use Rattle.tables.specs.declared.Region.{Region}
use Rattle.tables.specs.declared.Update.{Update}
use Rattle.tables.specs.declared.Hash.{Hash}
use Rattle.tables.specs.declared.RegionHash.{RegionHash}
use Rattle.tables.specs.declared.Interface.{Interface}
use Rattle.tables.specs.Kinds.{FREE, REGION, REGION_REVOKE, MANAGEMENT, CHANNEL, PERMISSION, CLEANUP}
use Rattle.tables.specs.Tables.{Tables, Arena, Domain, no_head, no_slot, no_region, no_record, no_update, no_hash, no_interface, hash_given}

abbrev pub sizes_for : state.Sizes → Sizes
sizes_for z = record { domains = z.domains; slots = z.slots; regions = z.regions; records = z.records; updates = z.updates }

abbrev pub handle_for : state.Handle → Handle
handle_for h = record { slot = h.slot; generation = h.generation }

-- ---- pools

-- a pool over n slots
unfoldable pub pool_of : ℕ → state.Pool → Arena
pool_of n p =
    record { head = slot_or0 (first_of p.free); count = n - length p.free; links = map (free_link p.free) (count_up 0 n); gens = p.gens }

-- ---- domains

abbrev pub capa_slot : Capa → Slot
capa_slot no_capa = no_slot
capa_slot (region h) = record { kind = REGION; handle = handle_for h }
capa_slot (region_revoke h) = record { kind = REGION_REVOKE; handle = handle_for h }
capa_slot (management h) = record { kind = MANAGEMENT; handle = handle_for h }
capa_slot (channel h) = record { kind = CHANNEL; handle = handle_for h }

-- a free slot with that one after it
abbrev pub free_slot : ℕ → Slot
free_slot k = record { kind = FREE; handle = record { slot = k; generation = 0 } }

-- slot i of a domain's list with that free stack, by what it holds
abbrev pub slot_for : List ℕ → ℕ → Option Capa → Slot
slot_for free i none = free_slot (slot_or0 (after_in free i))
slot_for free i (some c) = capa_slot c

-- the five words before the slots, of a domain with n slots
abbrev pub head_for : ℕ → state.Domain → DomainHead
head_for n x =
    record {
      manager = link x.manager;
      cores = x.cores;
      tracker = link (first_of (map (λ (q : state.Record). q.slot) x.tracker));
      head = slot_or0 (first_of x.locals.free);
      count = n - length x.locals.free;
    }

abbrev pub slots_for : ℕ → state.LocalList → List Slot
slots_for n l = map (λ i. slot_for l.free i (at_slot l.held i)) (count_up 0 n)

abbrev pub domain_for : ℕ → Option state.Domain → Domain
domain_for n none = record { head = no_head; slots = replicate n no_slot }
domain_for n (some x) = record { head = head_for n x; slots = slots_for n x.locals }

-- ---- regions

-- slot i among the regions, by what it holds
abbrev pub region_for : List (Option state.Region) → ℕ → Option state.Region → RegionCapa
region_for rs i none = no_region
region_for rs i (some g) =
    record {
      kind = kind_word g.kind;
      owner = suc g.owner;
      parent = link (parent_of g.kind);
      start = g.start;
      end = g.end;
      rights = g.rights;
      child = link (first_of g.children);
      next = link (after_in (siblings rs g.kind) i);
    }

-- ---- hashes (document 02, request 1)

abbrev pub hash_for : state.Hash → Hash
hash_for x = record { word0 = x.word0; word1 = x.word1; word2 = x.word2; word3 = x.word3 }

-- the row of a region's hash
abbrev pub region_hash_for : Option state.Hash → RegionHash
region_hash_for none = no_hash
region_hash_for (some x) = hash_given (hash_for x)

-- by what the slot holds; a free one has no hash
abbrev pub slot_hash : Option state.Region → RegionHash
slot_hash none = no_hash
slot_hash (some g) = region_hash_for g.hash

-- ---- interfaces (document 02, request 2)

abbrev pub interface_for : state.Interface → Interface
interface_for f = record { word = f.word; frozen = one_if f.frozen }

-- by what the slot holds; a free one has two zeros
abbrev pub slot_interface : Option state.Domain → Interface
slot_interface none = no_interface
slot_interface (some x) = interface_for x.interface

-- ---- tracker records

abbrev pub record_for : state.Record → Option ℕ → Region
record_for q next =
    record {
      start = q.start;
      end = q.end;
      ref_count = q.counts.reach;
      read_count = q.counts.read;
      write_count = q.counts.write;
      exec_count = q.counts.exec;
      super_count = q.counts.super;
      uncache_count = q.counts.uncacheable;
      next = link next;
    }

-- slot i as it stands in one tracker; else as in the others
abbrev pub in_tracker_for : ℕ → List state.Record → Region → Region
in_tracker_for i [] others = others
in_tracker_for i (q ∷ l) others = if eqb i q.slot then record_for q (first_of (map (λ (n : state.Record). n.slot) l)) else in_tracker_for i l others

abbrev pub record_in : List (Option state.Domain) → ℕ → Region
record_in [] i = no_record
record_in (none ∷ ds) i = record_in ds i
record_in (some x ∷ ds) i = in_tracker_for i x.tracker (record_in ds i)

-- ---- the ring

abbrev pub update_for : Option state.Update → Update
update_for none = no_update
update_for (some (permission h cores marks)) = record { kind = PERMISSION; a = h.slot; b = h.generation; c = cores }
update_for (some (cleanup a b)) = record { kind = CLEANUP; a = a; b = b; c = 0 }

-- place k of a ring for n updates
abbrev pub place_for : ℕ → state.Queue → ℕ → Update
place_for n q k = update_for (get_elem? q.items ((k + (n + 1) - q.read_place) % (n + 1)))

-- ---- marks (document 02, request 4)

-- of a domain that is queued; anything else has none
abbrev pub mark_for : Option state.Update → ℕ
mark_for none = 0
mark_for (some (permission h cores marks)) = marks
mark_for (some (cleanup a b)) = 0

-- ---- the whole

unfoldable pub domains_for : ℕ → ℕ → List (Option state.Domain) → List Domain
domains_for n m ds = map (λ i. domain_for m (at_slot ds i)) (count_up 0 n)

unfoldable pub regions_for : ℕ → List (Option state.Region) → List RegionCapa
regions_for n rs = map (λ i. region_for rs i (at_slot rs i)) (count_up 0 n)

unfoldable pub records_for : ℕ → List (Option state.Domain) → List Region
records_for n ds = map (record_in ds) (count_up 0 n)

unfoldable pub ring_for : ℕ → state.Queue → List Update
ring_for n q = map (place_for n q) (count_up 0 (n + 1))

unfoldable pub marks_for : ℕ → state.Queue → List ℕ
marks_for n q = map (λ k. mark_for (at_place n q k)) (count_up 0 (n + 1))

unfoldable pub hashes_for : ℕ → List (Option state.Region) → List RegionHash
hashes_for n rs = map (λ i. slot_hash (at_slot rs i)) (count_up 0 n)

unfoldable pub interfaces_for : ℕ → List (Option state.Domain) → List Interface
interfaces_for n ds = map (λ i. slot_interface (at_slot ds i)) (count_up 0 n)

unfoldable pub tables_of : State → Tables
tables_of s =
    record {
      sizes = sizes_for s.sizes;
      read = s.queue.read_place;
      write = write_place s;
      domain_pool = pool_of s.sizes.domains s.domain_pool;
      region_pool = pool_of s.sizes.regions s.region_pool;
      record_pool = pool_of s.sizes.records s.record_pool;
      domains = domains_for s.sizes.domains s.sizes.slots s.domains;
      regions = regions_for s.sizes.regions s.regions;
      records = records_for s.sizes.records s.domains;
      ring = ring_for s.sizes.updates s.queue;
      hashes = hashes_for s.sizes.regions s.regions;
      interfaces = interfaces_for s.sizes.domains s.domains;
      marks = marks_for s.sizes.updates s.queue;
    }
