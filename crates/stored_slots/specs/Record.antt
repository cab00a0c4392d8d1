-- A domain's list in the tables: what is read out, and what putting it back leaves.
use Rattle.std.specs.Prelude.{◌≡◌, refl, List, ◌++◌, ℕ, ◌-◌, ◌≤◌, ◌<◌, length, get_or, set, take, replicate}
use Rattle.std.proofs.Common.{ap, take_at, get_or-set_same, get_or-set_other, length-take-le}
use Rattle.std.proofs.lemmas.List.{set-get_or}
use Rattle.sizes.specs.Limits.{most_slots}
use Rattle.tables.specs.declared.DomainHead.{DomainHead}
use Rattle.tables.specs.declared.Slot.{Slot}
use Rattle.tables.specs.Tables.{Tables, Domain, no_domain, no_slot, with_domains}
use Rattle.slot_list.specs.declared.SlotList.{SlotList}

-- slots in the record's places
abbrev pub padded : List Slot → List Slot
padded ss = ss ++ replicate (most_slots - length ss) no_slot

unfoldable pub list_of : Domain → SlotList
list_of x = record { slots = padded x.slots; head = x.head.head; count = x.head.count; size = length x.slots }

abbrev pub with_top : DomainHead → ℕ → ℕ → DomainHead
with_top h top count = record { manager = h.manager; cores = h.cores; tracker = h.tracker; head = top; count = count }

-- as many slots as the domain has, and the list's head and count; manager, core map and tracker stay
unfoldable pub put_list : Domain → SlotList → Domain
put_list x l = record { head = with_top x.head l.head l.count; slots = take (length x.slots) l.slots }

-- record d; the one that is all zero where there is none
abbrev pub domain_or : Tables → ℕ → Domain
domain_or s d = get_or s.domains d no_domain

unfoldable pub list_at : Tables → ℕ → SlotList
list_at s d = list_of (domain_or s d)

unfoldable pub with_list : Tables → ℕ → SlotList → Tables
with_list s d l = with_domains s (set s.domains d (put_list (domain_or s d) l))

-- ---- read out and put back

-- the list as n slots keep it: what lies past them is all zero
abbrev pub cut : ℕ → SlotList → SlotList
cut n l = record { slots = padded (take n l.slots); head = l.head; count = l.count; size = n }

-- a list put back unchanged changes nothing
pub list-kept : (s : Tables) (d : ℕ) → with_list s d (list_at s d) ≡ s
unfolding with_list list_at put_list list_of with_domains
list-kept s d =
    let x = domain_or s d in
    let e : take (length x.slots) (padded x.slots) ≡ x.slots = take_at x.slots (replicate (most_slots - length x.slots) no_slot) (length x.slots) refl in
    rw e (ap (with_domains s) (set-get_or s.domains d no_domain))

-- what is put back is read out, and no other domain's list changes
pub list_read : (s : Tables) (d : ℕ) (l : SlotList) → d < length s.domains → length (domain_or s d).slots ≤ length l.slots
    → list_at (with_list s d l) d ≡ cut (length (domain_or s d).slots) l
unfolding with_list list_at put_list list_of with_domains
list_read s d l h room =
    let n = length (domain_or s d).slots in
    let e : length (take n l.slots) ≡ n = length-take-le n l.slots room in
    rw (get_or-set_same s.domains d (put_list (domain_or s d) l) no_domain h, e)

pub list-other : (s : Tables) (d e : ℕ) (l : SlotList) → (e ≡ d → ⊥) → list_at (with_list s d l) e ≡ list_at s e
unfolding with_list list_at with_domains
list-other s d e l ne = rw (get_or-set_other s.domains d e (put_list (domain_or s d) l) no_domain ne)
