-- **Book** of demand 3 (document 01): what lives, and whose it is, "from calls and answers alone". Nothing here looks at the tables.
use Rattle.std.specs.Prelude.{ℕ, zero, suc, Bool, true, false, not, ◌||◌, List, [], ◌∷◌, ◌++◌, eqb, length, get_or, set, replicate, if◌then◌else◌}
use Rattle.std.proofs.Math.Option
use Rattle.std.proofs.Math.Option.{Option, none, some}
use Rattle.model.specs.Lists.{is_some, count_if, count_up, is_empty, at_slot}
use Rattle.rights.specs.Rights.{union}
use Rattle.model.specs.State.{Sizes, Handle, Access, SendOptions, Kind, Root, Alias, Carve, parent_of}
use Rattle.model.specs.Perform.{Step, Call, Value, Answer}

-- ---- what the book keeps

-- A region that was accepted. Its place in the book, counted from 0 in order of creation, is its name for ever; a parent in the kind is such a place.
pub record Noted : Type 0 where
  pub kind : Kind
  pub owner : ℕ
  pub start : ℕ
  pub end : ℕ
  pub rights : ℕ
  pub alive : Bool

-- What a slot in use holds: nothing any more, a region, a RegionRevoke of a region (both by place), a Management or a Channel capability of a domain
-- (both by the handle that calls and answers name).
pub data Held : Type 0 where
  emptied : Held
  region_of : ℕ → Held
  revoke_of : ℕ → Held
  management_of : Handle → Held
  channel_of : Handle → Held

-- A domain's slots: `none` is free; the free slots as a stack, the one given next first.
pub record Slots : Type 0 where
  pub held : List (Option Held)
  pub free : List ℕ

-- An open domain: the generation that its opening answered, and its slots.
pub record Opened : Type 0 where
  pub generation : ℕ
  pub slots : Slots

-- The making's sizes, the regions by place, and for each domain's number the domain that is open there (`none`: not opened, or closed again).
pub record Book : Type 0 where
  pub sizes : Sizes
  pub regions : List Noted
  pub lists : List (Option Opened)

-- An empty book for tables of these sizes: no region, no domain opened.
abbrev pub blank : Sizes → Book
blank z = record { sizes = z; regions = []; lists = replicate z.domains none }

-- ---- reading and changing it

-- what a place past the end reads as; no accepted call meets it
abbrev pub no_noted : Noted
no_noted = record { kind = Root; owner = 0; start = 0; end = 0; rights = 0; alive = false }

-- what a domain that is not open reads as; no accepted call meets it
abbrev pub no_opened : Opened
no_opened = record { generation = 0; slots = record { held = []; free = [] } }

-- the region at a place; a domain's slots; what slot l of domain d holds
abbrev pub noted : List Noted → ℕ → Noted
noted rs k = get_or rs k no_noted

abbrev pub open_at : Book → ℕ → Opened
open_at b d = Option.get_or (at_slot b.lists d) no_opened

abbrev pub slots_of : Book → ℕ → Slots
slots_of b d = (open_at b d).slots

abbrev pub held_at : Book → ℕ → ℕ → Option Held
held_at b d l = at_slot (slots_of b d).held l

-- Is the domain of this handle open? Its number may have been given again since.
abbrev pub is_open : Book → Handle → Bool
is_open b h = elim (at_slot b.lists h.slot) [ none ↦ false | some o ↦ eqb o.generation h.generation ]

-- the book with what is open at one number, one domain's slots, or its regions, changed
abbrev pub with_opened : ℕ → Option Opened → Book → Book
with_opened d o b = record { sizes = b.sizes; regions = b.regions; lists = set b.lists d o }

abbrev pub with_slots : ℕ → Slots → Book → Book
with_slots d l b = with_opened d (some (record { generation = (open_at b d).generation; slots = l })) b

abbrev pub with_noted : List Noted → Book → Book
with_noted rs b = record { sizes = b.sizes; regions = rs; lists = b.lists }

-- ---- slots "are given .., freed and swept as above"

-- A slot is freed: "The slot freed last is given first."
abbrev pub free_slot : ℕ → Slots → Slots
free_slot i l = record { held = set l.held i none; free = i ∷ l.free }

-- several slots freed, one after another
abbrev pub free_slots : List ℕ → Slots → Slots
free_slots [] l = l
free_slots (i ∷ is) l = free_slots is (free_slot i l)

-- "None or a dead handle": of a region that is not alive, or a domain that is not open.
abbrev pub is_dead : Book → Held → Bool
is_dead b emptied = true
is_dead b (region_of k) = not (noted b.regions k).alive
is_dead b (revoke_of k) = not (noted b.regions k).alive
is_dead b (management_of h) = not (is_open b h)
is_dead b (channel_of h) = not (is_open b h)

-- the slots that hold such a thing, rising; the first element is slot i
abbrev pub dead_slots : Book → ℕ → List (Option Held) → List ℕ
dead_slots b i [] = []
dead_slots b i (none ∷ l) = dead_slots b (suc i) l
dead_slots b i (some c ∷ l) = if is_dead b c then i ∷ dead_slots b (suc i) l else dead_slots b (suc i) l

-- "When a list is full, slots holding None or a dead handle are freed in rising order."
unfoldable pub swept : Book → Slots → Slots
swept b l = if is_empty l.free then free_slots (dead_slots b 0 l.held) l else l

-- A domain's list before a slot in it is given.
unfoldable pub make_room : ℕ → Book → Book
make_room d b = with_slots d (swept b (slots_of b d)) b

-- The slot that is given next; 0 where none is free, which no accepted call meets.
abbrev pub top : List ℕ → ℕ
top [] = 0
top (i ∷ is) = i

-- Slot n is free no more. A free slot stands in the stack once.
abbrev pub removed : ℕ → List ℕ → List ℕ
removed n [] = []
removed n (i ∷ is) = if eqb i n then is else i ∷ removed n is

-- Slot n is given: what it holds from now on.
unfoldable pub put : ℕ → ℕ → Held → Book → Book
put d n c b = let l = slots_of b d in with_slots d (record { held = set l.held n (some c); free = removed n l.free }) b

-- Slot n of domain d, the answered one, is given; the list is swept before, if it is full.
unfoldable pub give : ℕ → ℕ → Held → Book → Book
give d n c b = put d n c (make_room d b)

-- the same where no local slot is answered: the slot that is given next
unfoldable pub give_next : ℕ → Held → Book → Book
give_next d c b = let b₁ = make_room d b in put d (top (slots_of b₁ d).free) c b₁

-- ---- the calls

-- Opening, with the handle that was answered: a list of free slots, 0 given first.
unfoldable pub opened : Handle → Book → Book
opened h b = with_opened h.slot (some (record { generation = h.generation; slots = record { held = replicate b.sizes.slots none; free = count_up 0 b.sizes.slots } })) b

-- "a live region of that kind, with the range and rights given, the caller's": it takes the next place.
unfoldable pub added : Kind → ℕ → Access → Book → Book
added k d a b = with_noted (b.regions ++ (record { kind = k; owner = d; start = a.start; end = a.end; rights = a.rights; alive = true } ∷ [])) b

-- "Root, alias and carve put a live region .. in one": in slot n of domain d.
unfoldable pub created : Kind → ℕ → ℕ → Access → Book → Book
created k d n a b = added k d a (give d n (region_of (length b.regions)) b)

-- The region at place k is domain d's.
unfoldable pub owned_by : ℕ → ℕ → Book → Book
owned_by d k b = let r = noted b.regions k in with_noted (set b.regions k (record { kind = r.kind; owner = d; start = r.start; end = r.end; rights = r.rights; alive = r.alive })) b

-- Document 02, request 1: "With a flag word given for a region, the flags join the region's rights, in demand 3's book too": those of the region at place k.
-- Hashes are not noted: no claim is about them.
unfoldable pub flagged : SendOptions → ℕ → Book → Book
flagged o k b = elim o.flags [
  | none ↦ b
  | some f ↦ let r = noted b.regions k in with_noted (set b.regions k (record { kind = r.kind; owner = r.owner; start = r.start; end = r.end; rights = union r.rights f; alive = r.alive })) b
]

-- "a region is that domain's from then on", with the flags; all else only moves, and request 1: "For other capabilities both are ignored."
unfoldable pub handed_to : ℕ → SendOptions → Option Held → Book → Book
handed_to d o none b = b
handed_to d o (some emptied) b = b
handed_to d o (some (region_of k)) b = flagged o k (owned_by d k b)
handed_to d o (some (revoke_of k)) b = b
handed_to d o (some (management_of h)) b = b
handed_to d o (some (channel_of h)) b = b

-- Slot l of domain d is freed.
unfoldable pub freed : ℕ → ℕ → Book → Book
freed d l b = with_slots d (free_slot l (slots_of b d)) b

-- what is given goes into the slot, if there is something
unfoldable pub put_any : ℕ → ℕ → Option Held → Book → Book
put_any d n none b = b
put_any d n (some c) b = put d n c b

-- "Send frees the sent slot and gives one in the list of the domain that the target names, in the source's order; what it held goes there":
-- the target's list is swept, if it is full; then the sent slot is read, and freed; then the slot is given.
unfoldable pub sent : ℕ → ℕ → ℕ → ℕ → SendOptions → Book → Book
sent d l to n o b = let b₁ = make_room to b in let c = held_at b₁ d l in put_any to n c (freed d l (handed_to to o c b₁))

-- Region j is k or below it: at most n parents lead from j to k.
abbrev pub is_under : List Noted → ℕ → ℕ → ℕ → Bool
is_under rs zero k j = eqb j k
is_under rs (suc n) k j = eqb j k || elim (parent_of (noted rs j).kind) [ none ↦ false | some p ↦ is_under rs n k p ]

-- No region has more above it than there are regions, as a parent comes first.
abbrev pub most_above : List Noted → ℕ
most_above rs = length rs

-- Those that pass the test die; i is the first one's place.
abbrev pub dying : (ℕ → Bool) → ℕ → List Noted → List Noted
dying t i [] = []
dying t i (r ∷ rs) = record { kind = r.kind; owner = r.owner; start = r.start; end = r.end; rights = r.rights; alive = if t i then false else r.alive } ∷ dying t (suc i) rs

-- "the region held or named there dies with all below"
unfoldable pub killed : ℕ → Book → Book
killed k b = with_noted (dying (is_under b.regions (most_above b.regions) k) 0 b.regions) b

-- Document 02, request 5: "demand 3's book closes likewise, and what dies counts as revoked". One slot of a domain that is closed; `close` closes a further
-- domain. A region that is dead already is killed again with all below it, which are dead too.
unfoldable pub revoked : (ℕ → Book → Book) → Option Held → Book → Book
revoked close none b = b
revoked close (some emptied) b = b
revoked close (some (region_of k)) b = killed k b
revoked close (some (revoke_of k)) b = killed k b
revoked close (some (management_of h)) b = if is_open b h then close h.slot b else b
revoked close (some (channel_of h)) b = b

-- "its slots in rising order"
unfoldable pub all_revoked : (Option Held → Book → Book) → List (Option Held) → Book → Book
all_revoked f [] b = b
all_revoked f (c ∷ cs) b = all_revoked f cs (f c b)

-- Domain d is closed: all that its slots hold is revoked, and the domain is open no more. From the number of open domains on n is enough: a domain that a
-- slot names is one step further down.
unfoldable pub closed : ℕ → ℕ → Book → Book
closed zero d b = b
closed (suc n) d b = with_opened d none (all_revoked (revoked (closed n)) (slots_of b d).held b)

abbrev pub open_domains : Book → ℕ
open_domains b = count_if is_some b.lists

-- "Revoke empties the slot, still in use"
unfoldable pub empty_slot : ℕ → ℕ → Book → Book
empty_slot d l b = let p = slots_of b d in with_slots d (record { held = set p.held l (some emptied); free = p.free }) b

-- the region that a slot holds: "its parent is the region in the slot named"; no accepted call meets another slot
abbrev pub place_in : Option Held → ℕ
place_in none = 0
place_in (some emptied) = 0
place_in (some (region_of k)) = k
place_in (some (revoke_of k)) = 0
place_in (some (management_of h)) = 0
place_in (some (channel_of h)) = 0

-- the domain that a target slot names; no accepted call meets another slot
abbrev pub domain_in : Option Held → ℕ
domain_in none = 0
domain_in (some emptied) = 0
domain_in (some (region_of k)) = 0
domain_in (some (revoke_of k)) = 0
domain_in (some (management_of h)) = h.slot
domain_in (some (channel_of h)) = h.slot

-- The slot, and the domain, that an answer names.
abbrev pub local_of : Value → ℕ
local_of Value.done = 0
local_of (Value.domain h) = 0
local_of (Value.local n) = n
local_of (Value.popped u) = 0
local_of (Value.permission_list l) = 0
local_of (Value.number n) = 0
local_of (Value.domain_list l) = 0

-- what an answer that names no domain reads as; no accepted opening gives it
abbrev pub no_handle : Handle
no_handle = record { slot = 0; generation = 0 }

abbrev pub domain_of : Value → Handle
domain_of Value.done = no_handle
domain_of (Value.domain h) = h
domain_of (Value.local n) = no_handle
domain_of (Value.popped u) = no_handle
domain_of (Value.permission_list l) = no_handle
domain_of (Value.number n) = no_handle
domain_of (Value.domain_list l) = no_handle

-- An accepted call.
unfoldable pub accept : Book → Call → Value → Book
-- "Making empties it."
accept b (Call.Make z) y = blank z
-- "in a manager's list, opening" takes a slot that names the new domain
accept b (Call.Do (Step.Open none cores)) y = opened (domain_of y) b
accept b (Call.Do (Step.Open (some m) cores)) y = give_next m.slot (management_of (domain_of y)) (opened (domain_of y) b)
-- "Channel, RegionRevoke .. take a slot that names their domain or region."
accept b (Call.Do (Step.Channel h to)) y = give h.slot (local_of y) (channel_of to) b
accept b (Call.Do (Step.CreateRevokeCapa h l)) y = give h.slot (local_of y) (revoke_of (place_in (held_at b h.slot l))) b
-- "its parent is the region in the slot named, a root's none"
accept b (Call.Do (Step.Root h a)) y = created Root h.slot (local_of y) a b
accept b (Call.Do (Step.Alias h l a)) y = created (Alias (place_in (held_at b h.slot l))) h.slot (local_of y) a b
accept b (Call.Do (Step.Carve h l a)) y = created (Carve (place_in (held_at b h.slot l))) h.slot (local_of y) a b
-- **Send** and **Revoke**
accept b (Call.Do (Step.Send h l target o)) y = sent h.slot l (domain_in (held_at b h.slot target)) (local_of y) o b
accept b (Call.Do (Step.Revoke h l)) y = empty_slot h.slot l (revoked (closed (open_domains b)) (held_at b h.slot l) b)
-- "pop, core maps and readings change nothing"
accept b (Call.Do (Step.SetCoreMap h cores)) y = b
accept b Call.Pop y = b
accept b (Call.Read r) y = b
-- "A call that a change request adds .. leaves the book as it is."
accept b (Call.Do (Step.SetInterface h word)) y = b
accept b (Call.Do (Step.FreezeInterface h)) y = b

-- What a call and its answer add to the book: "Refused calls .. change nothing."
unfoldable pub note : Book → Call → Answer → Book
note b c (Answer.yes y) = accept b c y
note b c (Answer.no r) = b
