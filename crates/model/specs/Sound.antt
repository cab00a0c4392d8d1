-- **Sound** (document 01, "Memory and who can be refused"): one named fact for each clause of that paragraph; a fact about a part of the state has its name
-- (`domain_pool`). Each record below is about the tables that it names, and about nothing else. The last three say which are asked of what: read them
-- first (a first reading: `LiveOrOlder`, then `Rising` to `QueueSound`).
use Rattle.std.specs.Prelude.{◌≡◌, ◌≢◌, ℕ, ◌+◌, ◌≤◌, ◌<◌, Bool, false, not, ◌||◌, List, [], ◌∷◌, map, T, eqb, ltb, length, get_or}
use Rattle.std.proofs.Math.Option.{Option, none, some}
use Rattle.rights.specs.Rights.{allowed}
use Rattle.model.specs.Lists.{one_if, is_some, exists, count_if, Each, at_slot, In}
use Rattle.model.specs.State.{Word, Handle, Pool, Capa, no_capa, region, region_revoke, management, channel, LocalList, Record, Domain, parent_of, Region, HashWords, Update, permission, cleanup, Queue, State}
use Rattle.model.specs.Fields.{Field}
use Rattle.model.specs.Pool.{handle_of, same_handle, is_live}
use Rattle.model.specs.Updates.{is_permission_of}
use Rattle.model.specs.Tracker.{mergeable}
use Rattle.model.specs.Tree.{is_carve, is_root_kind, access_of, overlaps, children_of}
use Rattle.model.specs.Making.{good_sizes}
use Rattle.model.specs.Counts.{holds, region_count, Agree}

-- ---- pools

-- "in use or free once": of n slots each is used once and not free, or not used and free once; there are no others.
abbrev pub OnceEach : ℕ → (ℕ → ℕ) → List ℕ → Type 0
OnceEach n used free = (i : ℕ) → used i + count_if (eqb i) free ≡ one_if (ltb i n)

-- 1 where slot i is in use, else 0
abbrev pub slot_uses : {A : Type 0} → List (Option A) → ℕ → ℕ
slot_uses l i = one_if (is_some (at_slot l i))

-- how many records of the domains' trackers have slot i
abbrev pub record_uses : List (Option Domain) → ℕ → ℕ
record_uses [] i = 0
record_uses (none ∷ ds) i = record_uses ds i
record_uses (some x ∷ ds) i = count_if (λ q. eqb i q.slot) x.tracker + record_uses ds i

-- A pool of n slots: "every pool .. slot is in use or free once".
pub record PoolSound (n : ℕ) (used : ℕ → ℕ) (p : Pool) : Type 0 where
  pub gens_length : length p.gens ≡ n
  pub gens_words : Each Word p.gens
  pub once : OnceEach n used p.free

-- ---- regions

-- "without circles": from region i the parents lead to a root.
pub data Rooted (regions : List (Option Region)) : ℕ → Type 0 where
  top : (i : ℕ) (g : Region) → In regions i g → parent_of g.kind ≡ none → Rooted regions i
  under : (i p : ℕ) (g : Region) → In regions i g → parent_of g.kind ≡ some p → Rooted regions p → Rooted regions i

-- numbers that do not fall
abbrev pub Ordered : List ℕ → Type 0
Ordered [] = Unit {0}
Ordered (x ∷ l) = Each (λ y. x ≤ y) l × Ordered l

-- Is p the slot that is named? `none` names no slot.
abbrev pub names : Option ℕ → ℕ → Bool
names none p = false
names (some q) p = eqb q p

-- Region g in slot i, among the regions.
pub record RegionSound (regions : List (Option Region)) (i : ℕ) (g : Region) : Type 0 where
  -- "each live non-root is in exactly its parent's list": the parent is live, and has it once; no other list, and a root no list, has it
  pub parent_live : (p : ℕ) → parent_of g.kind ≡ some p → T (is_some (at_slot regions p))
  pub listed : (p : ℕ) (other : Region) → In regions p other → count_if (eqb i) other.children ≡ one_if (names (parent_of g.kind) p)
  -- nothing but live regions is in its own list
  pub children_live : Each (λ c. T (is_some (at_slot regions c))) g.children
  -- "without circles"
  pub rooted : Rooted regions i
  -- "lists ordered"
  pub ordered : Ordered (map (λ (c : Region). c.start) (children_of regions g))
  -- "ranges nonempty and inside the parent's"
  pub nonempty : g.start < g.end
  pub inside : (p : ℕ) (parent : Region) → parent_of g.kind ≡ some p → In regions p parent → (parent.start ≤ g.start) × (g.end ≤ parent.end)
  -- "carves overlap no sibling"
  pub carves_apart : (j : ℕ) (sibling : Region) → In regions j sibling → i ≢ j → T (is_carve g.kind) → parent_of g.kind ≡ parent_of sibling.kind → T (not (overlaps (access_of g) sibling))
  -- "READ to SUPER and UNCACHEABLE lie in the parent's": the rule that alias and carve check
  pub rights_inside : (p : ℕ) (parent : Region) → parent_of g.kind ≡ some p → In regions p parent → T (allowed parent.rights g.rights)
  -- what is stored are words
  pub start_word : Word g.start
  pub end_word : Word g.end
  pub rights_byte : g.rights < 256
  pub hash_words : HashWords g.hash

-- ---- capability lists

-- Does this slot hold the Region capability of that handle? The Management capability?
abbrev pub is_region_of : Handle → Option Capa → Bool
is_region_of h none = false
is_region_of h (some no_capa) = false
is_region_of h (some (region k)) = same_handle h k
is_region_of h (some (region_revoke k)) = false
is_region_of h (some (management k)) = false
is_region_of h (some (channel k)) = false

abbrev pub is_management_of : Handle → Option Capa → Bool
is_management_of h none = false
is_management_of h (some no_capa) = false
is_management_of h (some (region k)) = false
is_management_of h (some (region_revoke k)) = false
is_management_of h (some (management k)) = same_handle h k
is_management_of h (some (channel k)) = false

-- Region g in slot i: "each live region has one Region slot, in its domain".
pub record OwnerSound (region_pool : Pool) (domains : List (Option Domain)) (i : ℕ) (g : Region) : Type 0 where
  pub owner_live : T (is_some (at_slot domains g.owner))
  pub one_slot : (d : ℕ) (x : Domain) → In domains d x → count_if (is_region_of (handle_of region_pool i)) x.locals.held ≡ one_if (eqb g.owner d)

-- "managers form no circle": from domain d the managers lead to an unmanaged domain.
pub data Managed (domains : List (Option Domain)) : ℕ → Type 0 where
  no_manager : (d : ℕ) (x : Domain) → In domains d x → x.manager ≡ none → Managed domains d
  by : (d m : ℕ) (x : Domain) → In domains d x → x.manager ≡ some m → Managed domains m → Managed domains d

-- Domain x in slot d: "each live managed domain has one Management slot, in its manager's list, an unmanaged one has none".
pub record ManagerSound (domain_pool : Pool) (domains : List (Option Domain)) (d : ℕ) (x : Domain) : Type 0 where
  pub manager_live : (m : ℕ) → x.manager ≡ some m → T (is_some (at_slot domains m))
  pub one_management : (e : ℕ) (y : Domain) → In domains e y → count_if (is_management_of (handle_of domain_pool d)) y.locals.held ≡ one_if (names x.manager e)
  pub managed : Managed domains d

-- "live or older than its slot's generation". Past the pool's end the generation reads as 0, and nothing is older. So a handle's numbers are words.
abbrev pub LiveOrOlder : {A : Type 0} → Pool → List (Option A) → Handle → Type 0
LiveOrOlder p l h = T (is_live p l h || ltb h.generation (get_or p.gens h.slot 0))

-- "every other handle is live or older than its slot's generation"; asked of every handle, as those counted above are live
abbrev pub HandleFit : Pool → List (Option Region) → Pool → List (Option Domain) → Option Capa → Type 0
HandleFit rp rs dp ds none = Unit {0}
HandleFit rp rs dp ds (some no_capa) = Unit {0}
HandleFit rp rs dp ds (some (region h)) = LiveOrOlder rp rs h
HandleFit rp rs dp ds (some (region_revoke h)) = LiveOrOlder rp rs h
HandleFit rp rs dp ds (some (management h)) = LiveOrOlder dp ds h
HandleFit rp rs dp ds (some (channel h)) = LiveOrOlder dp ds h

-- "no RegionRevoke names a live root"; of a dead handle nothing is asked, whatever its slot holds now
abbrev pub RevokeFit : Pool → List (Option Region) → Option Capa → Type 0
RevokeFit rp rs none = Unit {0}
RevokeFit rp rs (some no_capa) = Unit {0}
RevokeFit rp rs (some (region h)) = Unit {0}
RevokeFit rp rs (some (region_revoke h)) = (g : Region) → In rs h.slot g → T (is_live rp rs h) → T (not (is_root_kind g.kind))
RevokeFit rp rs (some (management h)) = Unit {0}
RevokeFit rp rs (some (channel h)) = Unit {0}

-- A domain's list of n slots: "every .. list slot is in use or free once", and what the slots hold.
pub record ListSound (n : ℕ) (region_pool : Pool) (regions : List (Option Region)) (domain_pool : Pool) (domains : List (Option Domain)) (l : LocalList) : Type 0 where
  pub held_length : length l.held ≡ n
  pub once : OnceEach n (slot_uses l.held) l.free
  pub revokes_fit : Each (RevokeFit region_pool regions) l.held
  pub handles_fit : Each (HandleFit region_pool regions domain_pool domains) l.held

-- ---- trackers

-- "ordered, nonempty": records from address lo on, disjoint
abbrev pub Rising : ℕ → List Record → Type 0
Rising lo [] = Unit {0}
Rising lo (q ∷ l) = (lo ≤ q.start) × (q.start < q.end) × Rising q.end l

-- "fully merged": no neighbours may be one record
abbrev pub Merged : List Record → Type 0
Merged [] = Unit {0}
Merged (q ∷ []) = Unit {0}
Merged (q ∷ n ∷ l) = T (not (mergeable q n)) × Merged (n ∷ l)

-- The tracker of domain d. That "each tracker record is on one list" stands with the record pool; that a record's numbers are words follows from the regions'.
pub record TrackerSound (regions : List (Option Region)) (d : ℕ) (l : List Record) : Type 0 where
  -- "ordered, nonempty", "fully merged", "with reach above 0"
  pub rising : Rising 0 l
  pub merged : Merged l
  pub reached : Each (λ q. 0 < q.counts.reach) l
  -- "the counts demand 3 defines (over stored regions)", at every address of the record
  pub counted : Each (λ q. (a : ℕ) → q.start ≤ a → a < q.end → Agree regions d a q.counts) l
  -- "and an uncacheable count of 0 or 1"
  pub uncacheable : Each (λ q. q.counts.uncacheable ≤ 1) l
  -- "each address where a live region counts for a domain lies in a record of that domain"
  pub covered : (a : ℕ) → 0 < region_count Field.Reach regions d a → T (exists (λ q. holds q.start q.end a) l)

-- ---- the update ring

-- "queued domains are live", or closed since (document 02, request 5: "A queued update may name a closed domain by its old generation"). A free slot's own
-- generation is neither.
abbrev pub QueuedFit : Pool → List (Option Domain) → Update → Type 0
QueuedFit p ds (permission h cores marks) = LiveOrOlder p ds h
QueuedFit p ds (cleanup a b) = Unit {0}

-- "and queued singly": none is queued again further on
abbrev pub Singly : List Update → Type 0
Singly [] = Unit {0}
Singly (permission h cores marks ∷ us) = (count_if (is_permission_of h) us ≡ 0) × Singly us
Singly (cleanup a b ∷ us) = Singly us

-- what is stored are words (the handle's by `handles_fit` already), and the marks five bits (document 02, request 4)
abbrev pub UpdateWords : Update → Type 0
UpdateWords (permission h cores marks) = Word h.slot × Word h.generation × Word cores × (marks < 32)
UpdateWords (cleanup a b) = Word a × Word b

-- The ring for n updates has n + 1 places. "the ring's two places lie inside it": the read place, and at most n updates behind it.
pub record QueueSound (n : ℕ) (domain_pool : Pool) (domains : List (Option Domain)) (q : Queue) : Type 0 where
  pub read_place : q.read_place < n + 1
  pub fits : length q.items < n + 1
  pub handles_fit : Each (QueuedFit domain_pool domains) q.items
  pub singly : Singly q.items
  pub queued_words : Each UpdateWords q.items

-- ---- the whole paragraph

-- Everything outside the trackers, their pool and the ring: no field looks at these.
pub record OutsideSound (s : State) : Type 0 where
  -- "(a stored size outside its limits included)"
  pub sizes_good : T (good_sizes s.sizes)
  -- "every pool .. slot is in use or free once"
  pub domains_length : length s.domains ≡ s.sizes.domains
  pub regions_length : length s.regions ≡ s.sizes.regions
  pub domain_pool : PoolSound s.sizes.domains (slot_uses s.domains) s.domain_pool
  pub region_pool : PoolSound s.sizes.regions (slot_uses s.regions) s.region_pool
  -- every live region
  pub regions : (i : ℕ) (g : Region) → In s.regions i g → RegionSound s.regions i g
  pub owners : (i : ℕ) (g : Region) → In s.regions i g → OwnerSound s.region_pool s.domains i g
  -- every live domain
  pub managers : (d : ℕ) (x : Domain) → In s.domains d x → ManagerSound s.domain_pool s.domains d x
  pub lists : (d : ℕ) (x : Domain) → In s.domains d x → ListSound s.sizes.slots s.region_pool s.regions s.domain_pool s.domains x.locals
  pub cores_words : (d : ℕ) (x : Domain) → In s.domains d x → Word x.cores
  pub interface_words : (d : ℕ) (x : Domain) → In s.domains d x → Word x.interface.word

-- The trackers with their pool.
pub record TrackersSound (s : State) : Type 0 where
  -- "every pool .. slot is in use or free once", and "each tracker record is on one list"
  pub record_pool : PoolSound s.sizes.records (record_uses s.domains) s.record_pool
  -- every live domain
  pub trackers : (d : ℕ) (x : Domain) → In s.domains d x → TrackerSound s.regions d x.tracker

pub record Sound (s : State) : Type 0 where
  pub outside : OutsideSound s
  pub tracked : TrackersSound s
  pub queue : QueueSound s.sizes.updates s.domain_pool s.domains s.queue
