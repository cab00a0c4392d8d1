-- Structured tables read as a state of the model. The reading is total: lists are walked for no more steps than there are slots, and what no
-- table of a state has is read as something. Whether the tables have the words of the state that is read is another question: see Canonical.
use Rattle.std.specs.Prelude.{ℕ, zero, suc, ◌+◌, ◌-◌, ◌%◌, Bool, List, [], ◌∷◌, map, eqb, get_or, if◌then◌else◌}
use Rattle.std.proofs.Math.Option.{Option, none, some}
use Rattle.model.specs.Lists.{count_up}
use Rattle.model.specs.State as state
use Rattle.model.specs.State.{State, Pool, Capa, no_capa, region, region_revoke, management, channel, LocalList, Record, Kind, Root, Alias, Carve, Queue, permission, cleanup}
use Rattle.laws.specs.Words.SameTables.{unlink}
use Rattle.sizes.specs.declared.Sizes.{Sizes}
use Rattle.tables.specs.declared.Handle.{Handle}
use Rattle.tables.specs.declared.Slot.{Slot}
use Rattle.tables.specs.declared.RegionCapa.{RegionCapa}
use Rattle.tables.specs.declared.Region.{Region}
use Rattle.tables.specs.declared.Update.{Update}
use Rattle.tables.specs.declared.RegionHash.{RegionHash}
use Rattle.tables.specs.declared.Interface.{Interface}
use Rattle.tables.specs.Kinds.{PERMISSION}
use Rattle.tables.specs.Tables.{Tables, Arena, Domain, no_domain, no_slot, no_region, no_record, no_update, no_hash, no_interface}

-- ---- walks

-- n slots from slot h on; f gives the slot after a slot
abbrev pub stack_from : (ℕ → ℕ) → ℕ → ℕ → List ℕ
stack_from f zero h = []
stack_from f (suc n) h = h ∷ stack_from f n (f h)

-- from a link on to the link 0, at most n slots; f gives the link behind a slot
abbrev pub chain_from : (ℕ → ℕ) → ℕ → ℕ → List ℕ
chain_from f zero l = []
chain_from f (suc n) zero = []
chain_from f (suc n) (suc i) = i ∷ chain_from f n (f i)

-- the slot that a link names
abbrev pub linked : ℕ → Option ℕ
linked zero = none
linked (suc i) = some i

-- ---- pools

-- the free slot after a slot
abbrev pub after_free : List ℕ → ℕ → ℕ
after_free links i = get_or links i 0 - 1

-- of n slots
abbrev pub free_from : ℕ → Arena → List ℕ
free_from n a = stack_from (after_free a.links) (n - a.count) a.head

unfoldable pub pool_from : ℕ → Arena → Pool
pool_from n a = record { gens = a.gens; free = free_from n a }

-- a link 0 is a slot in use
abbrev pub taken : Arena → ℕ → Bool
taken a i = eqb (get_or a.links i 0) 0

-- the slots of n that are in use, with what each holds
abbrev pub table_from : {A : Type 0} → ℕ → Arena → (ℕ → A) → List (Option A)
table_from n a f = map (λ i. if taken a i then some (f i) else none) (count_up 0 n)

-- ---- capability lists

abbrev pub handle_from : Handle → state.Handle
handle_from h = record { slot = h.slot; generation = h.generation }

-- what a slot holds, by its kind; a kind above CHANNEL is none that a list has
abbrev pub capa_from : ℕ → Handle → Option Capa
capa_from zero h = some no_capa
capa_from (suc zero) h = none
capa_from (suc (suc zero)) h = some (region (handle_from h))
capa_from (suc (suc (suc zero))) h = some (region_revoke (handle_from h))
capa_from (suc (suc (suc (suc zero)))) h = some (management (handle_from h))
capa_from (suc (suc (suc (suc (suc zero))))) h = some (channel (handle_from h))
capa_from (suc (suc (suc (suc (suc (suc n)))))) h = some no_capa

abbrev pub held_in : Slot → Option Capa
held_in x = capa_from x.kind x.handle

-- the free slot after a slot of a list
abbrev pub after_slot : List Slot → ℕ → ℕ
after_slot l i = (get_or l i no_slot).handle.slot

-- of n slots
abbrev pub list_from : ℕ → Domain → LocalList
list_from n x = record { held = map held_in x.slots; free = stack_from (after_slot x.slots) (n - x.head.count) x.head.head }

-- ---- tracker records

abbrev pub record_from : ℕ → Region → Record
record_from i r =
    record {
      slot = i;
      start = r.start;
      end = r.end;
      counts = record { reach = r.ref_count; read = r.read_count; write = r.write_count; exec = r.exec_count; super = r.super_count; uncacheable = r.uncache_count };
    }

-- the tracker from a link on, of n records
abbrev pub tracker_from : ℕ → List Region → ℕ → List Record
tracker_from n l k = map (λ i. record_from i (get_or l i no_record)) (chain_from (λ i. (get_or l i no_record).next) n k)

-- ---- domains, with m slots each, and n records

abbrev pub interface_from : Interface → state.Interface
interface_from f = record { word = f.word; frozen = eqb f.frozen 1 }

abbrev pub domain_from : ℕ → ℕ → List Region → Domain → Interface → state.Domain
domain_from m n l x f =
    record { manager = linked x.head.manager; cores = x.head.cores; locals = list_from m x; tracker = tracker_from n l x.head.tracker; interface = interface_from f }

-- from the rows of slot i
abbrev pub domain_read : Tables → ℕ → state.Domain
domain_read v i = domain_from v.sizes.slots v.sizes.records v.records (get_or v.domains i no_domain) (get_or v.interfaces i no_interface)

unfoldable pub domains_from : Tables → List (Option state.Domain)
domains_from v = table_from v.sizes.domains v.domain_pool (domain_read v)

-- ---- regions

-- by the kind word and the parent's link
abbrev pub kind_from : ℕ → ℕ → Kind
kind_from zero p = Root
kind_from (suc zero) p = Root
kind_from (suc (suc zero)) p = Alias (unlink p)
kind_from (suc (suc (suc n))) p = Carve (unlink p)

-- the children from a link on, of n regions
abbrev pub children_from : ℕ → List RegionCapa → ℕ → List ℕ
children_from n l k = chain_from (λ i. (get_or l i no_region).next) n k

-- a hash, by the word that says whether there is one
abbrev pub hash_by : ℕ → state.Hash → Option state.Hash
hash_by zero x = none
hash_by (suc n) x = some x

abbrev pub hash_from : RegionHash → Option state.Hash
hash_from x = hash_by x.given (record { word0 = x.word0; word1 = x.word1; word2 = x.word2; word3 = x.word3 })

abbrev pub region_from : ℕ → List RegionCapa → RegionCapa → RegionHash → state.Region
region_from n l r x =
    record { owner = unlink r.owner; kind = kind_from r.kind r.parent; start = r.start; end = r.end; rights = r.rights; children = children_from n l r.child; hash = hash_from x }

-- from the rows of slot i
abbrev pub region_read : Tables → ℕ → state.Region
region_read v i = region_from v.sizes.regions v.regions (get_or v.regions i no_region) (get_or v.hashes i no_hash)

unfoldable pub regions_from : Tables → List (Option state.Region)
regions_from v = table_from v.sizes.regions v.region_pool (region_read v)

-- ---- the ring

-- by the kind word, with the marks beside it; only permissions and cleanups stand in a queue
abbrev pub update_from : Update → ℕ → state.Update
update_from u m = if eqb u.kind PERMISSION then permission (record { slot = u.a; generation = u.b }) u.c m else cleanup u.a u.b

-- from place p of n up to place w, going round, at most k places
abbrev pub places_from : ℕ → ℕ → ℕ → ℕ → List ℕ
places_from n w zero p = []
places_from n w (suc k) p = if eqb p w then [] else p ∷ places_from n w k ((p + 1) % n)

-- n places and their marks; the queue goes from place r up to place w
unfoldable pub queue_from : ℕ → ℕ → ℕ → List Update → List ℕ → Queue
queue_from n r w l ms = record { read_place = r; items = map (λ k. update_from (get_or l k no_update) (get_or ms k 0)) (places_from n w n r) }

-- ---- the whole

abbrev pub sizes_from : Sizes → state.Sizes
sizes_from z = record { domains = z.domains; slots = z.slots; regions = z.regions; records = z.records; updates = z.updates }

unfoldable pub state_of : Tables → State
state_of v =
    record {
      sizes = sizes_from v.sizes;
      domain_pool = pool_from v.sizes.domains v.domain_pool;
      region_pool = pool_from v.sizes.regions v.region_pool;
      record_pool = pool_from v.sizes.records v.record_pool;
      domains = domains_from v;
      regions = regions_from v;
      queue = queue_from (v.sizes.updates + 1) v.read v.write v.ring v.marks;
    }
