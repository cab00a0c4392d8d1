-- The refusals (document 01, "Memory and who can be refused"), by document 01's names, which model, mechanism, code and replies use; and the one table of
-- their numbers: "A refusal gives its number and nothing else".
use Rattle.std.specs.Prelude.{ℕ, List, [], ◌∷◌}
use Rattle.refusals.specs.declared.Refusal.{Refusal}
use Rattle.refusals.specs.declared.Refusal.TheVariants.{Memory, Sizes, NoDomain, NoSlot, WrongKind, Stale, BadRange, Beyond, Root, NotCarried, NoRegion, NoLocal, NoTracker, RingFull, NoDomainRoom, Spent, BadRecord, BadFlag, NoHash, NotAllowed, Frozen, HoldsRoot, Running}

abbrev pub number : Refusal → ℕ
number Memory = 1
number Sizes = 2
number NoDomain = 3
number NoSlot = 4
number WrongKind = 5
number Stale = 6
number BadRange = 7
number Beyond = 8
number Root = 9
number NotCarried = 10
number NoRegion = 11
number NoLocal = 12
number NoTracker = 13
number RingFull = 14
number NoDomainRoom = 15
number Spent = 16
number BadRecord = 17
number BadFlag = 18
number NoHash = 19
number NotAllowed = 20
number Frozen = 21
number HoldsRoot = 22
number Running = 23

-- ---- refused is the host that lends

abbrev pub memory : Refusal
memory = Memory  -- a length wrong, or tables not sound

abbrev pub sizes : Refusal
sizes = Sizes  -- making: a size outside its limits

-- ---- refused is a domain's program

abbrev pub no_domain : Refusal
no_domain = NoDomain  -- the handle of no live domain

abbrev pub no_slot : Refusal
no_slot = NoSlot  -- local number too large, or the slot free

abbrev pub wrong_kind : Refusal
wrong_kind = WrongKind  -- the capability is of another kind

abbrev pub stale : Refusal
stale = Stale  -- the region is dead

abbrev pub bad_range : Refusal
bad_range = BadRange  -- start not below end

abbrev pub beyond : Refusal
beyond = Beyond  -- the rule of alias or carve broken: range, rights or overlap

-- document 01's Root; `Root` is a kind of region
abbrev pub is_root : Refusal
is_root = Root  -- revoking a root, or making its RegionRevoke

abbrev pub not_carried : Refusal
not_carried = NotCarried  -- sending a Management capability

-- ---- refused are all together: what they share is used up

abbrev pub no_region : Refusal
no_region = NoRegion  -- no region slot free

abbrev pub no_local : Refusal
no_local = NoLocal  -- list full after the sweep

abbrev pub no_tracker : Refusal
no_tracker = NoTracker  -- a split or new record finds none free

abbrev pub ring_full : Refusal
ring_full = RingFull  -- the ring holds as many as it can

abbrev pub no_domain_room : Refusal
no_domain_room = NoDomainRoom  -- no domain slot free

abbrev pub spent : Refusal
spent = Spent  -- a generation of 2^64 − 1 would be raised

-- ---- refused is a script's author

abbrev pub bad_record : Refusal
bad_record = BadRecord  -- a script's record is bad or cut

-- ---- a send's options (document 02, request 1)

abbrev pub bad_flag : Refusal
bad_flag = BadFlag  -- a flag other than HASH, CLEANUP or VITAL

abbrev pub no_hash : Refusal
no_hash = NoHash  -- HASH without a hash

-- ---- a domain's interface (document 02, request 2)

abbrev pub not_allowed : Refusal
not_allowed = NotAllowed  -- the caller's word lacks the bit

abbrev pub is_frozen : Refusal
is_frozen = Frozen  -- setting a frozen word

-- ---- closing a domain (document 02, request 5)

abbrev pub holds_root : Refusal
holds_root = HoldsRoot  -- a domain to be closed holds a root

abbrev pub running : Refusal
running = Running  -- a domain to be closed has a nonzero core map

-- ---- all of them, in the order of their numbers

abbrev pub all : List Refusal
all = memory ∷ sizes ∷ no_domain ∷ no_slot ∷ wrong_kind ∷ stale ∷ bad_range ∷ beyond ∷ is_root ∷ not_carried ∷ no_region ∷ no_local ∷ no_tracker ∷ ring_full ∷ no_domain_room ∷ spent ∷ bad_record ∷ bad_flag ∷ no_hash ∷ not_allowed ∷ is_frozen ∷ holds_root ∷ running ∷ []
