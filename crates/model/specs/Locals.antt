-- A domain's capability list (document 01, **Sweep**, and 12 NoLocal).
use Rattle.std.specs.Prelude.{ℕ, suc, Bool, true, not, List, [], ◌∷◌, set, replicate, if◌then◌else◌}
use Rattle.std.proofs.Math.Option.{Option, none, some}
use Rattle.model.specs.Lists.{count_up, is_empty, at_slot}
use Rattle.model.specs.Outcome.{Outcome, ok, refuse, ◌>>=◌, ◌>>◌, require, ok_or}
use Rattle.refusals.specs.Refusals.{no_slot, no_local}
use Rattle.model.specs.State.{State, LocalList, Capa, no_capa, region, region_revoke, management, channel, domain_at, put_domain, with_locals}
use Rattle.model.specs.Pool.{is_live}

-- a new domain's list: all slots free, 0 given first (`FreeList::new`)
abbrev pub fresh_locals : ℕ → LocalList
fresh_locals n = record { held = replicate n none; free = count_up 0 n }

-- A slot is freed: the slot freed last is given first.
abbrev pub free_local : ℕ → LocalList → LocalList
free_local i l = record { held = set l.held i none; free = i ∷ l.free }

-- A capability takes the first free slot; 12 where there is none (`insert_capa`).
unfoldable pub insert_local : Capa → LocalList → Outcome (ℕ × LocalList)
insert_local c l = elim l.free [ [] ↦ refuse no_local | i ∷ is ↦ ok (i, record { held = set l.held i (some c); free = is }) ]

-- "None or a dead handle" (**Sweep**).
abbrev pub is_invalid : State → Capa → Bool
is_invalid s no_capa = true
is_invalid s (region h) = not (is_live s.region_pool s.regions h)
is_invalid s (region_revoke h) = not (is_live s.region_pool s.regions h)
is_invalid s (management h) = not (is_live s.domain_pool s.domains h)
is_invalid s (channel h) = not (is_live s.domain_pool s.domains h)

-- the slots that hold such a capability, rising; the first element is slot i
abbrev pub invalid_slots : State → ℕ → List (Option Capa) → List ℕ
invalid_slots s i [] = []
invalid_slots s i (none ∷ l) = invalid_slots s (suc i) l
invalid_slots s i (some c ∷ l) = if is_invalid s c then i ∷ invalid_slots s (suc i) l else invalid_slots s (suc i) l

-- several slots freed, one after another
abbrev pub free_locals : List ℕ → LocalList → LocalList
free_locals [] l = l
free_locals (i ∷ is) l = free_locals is (free_local i l)

-- **Sweep** (`free_invalid_capas`): "slots holding None or a dead handle are freed in rising order", so that the highest of them is
-- given first.
unfoldable pub free_invalid_capas : State → LocalList → LocalList
free_invalid_capas s l = free_locals (invalid_slots s 0 l.held) l

-- Not a test alone: "When a list is full" it is swept; 12 where it is full still (`has_capacity_for`). Where the call is refused later, its old state
-- stands, and the sweep is lost with the new one.
unfoldable pub has_capacity : ℕ → State → Outcome State
has_capacity d s = do
  let old = (domain_at s d).locals
  let new = if is_empty old.free then free_invalid_capas s old else old
  require (not (is_empty new.free)) no_local  -- 12
  ok (put_domain d (with_locals new (domain_at s d)) s)

-- What local slot l of domain d holds; 4 where it is free or the number too large.
unfoldable pub capa_at : State → ℕ → ℕ → Outcome Capa
capa_at s d l = ok_or (at_slot (domain_at s d).locals.held l) no_slot

-- A capability gets a slot of the domain's list, which is "read out, changed and put back as one record"; 12 where none is free.
unfoldable pub insert_capa : ℕ → Capa → State → Outcome (ℕ × State)
insert_capa d c s = do
  (i, l) ← insert_local c (domain_at s d).locals
  ok (i, put_domain d (with_locals l (domain_at s d)) s)

-- **Send** frees the sent slot.
unfoldable pub remove_capa : ℕ → ℕ → State → State
remove_capa d i s = put_domain d (with_locals (free_local i (domain_at s d).locals) (domain_at s d)) s

-- **Revoke**: "The caller's slot becomes Capa::None, still in use until a sweep."
unfoldable pub empty_capa : ℕ → ℕ → State → State
empty_capa d i s = put_domain d (with_locals (record { held = set (domain_at s d).locals.held i (some no_capa); free = (domain_at s d).locals.free }) (domain_at s d)) s
