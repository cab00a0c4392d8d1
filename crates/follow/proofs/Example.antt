-- What a writer has seen, call after call, in small tables: an update waits, is popped and read in the counts that it marks; a gain that changes nothing
-- queues nothing; marks are gathered; a domain that was read stays read while another is; an update of a closed domain teaches nothing; a making anew
-- voids all.
use Rattle.std.specs.Prelude.{◌≡◌, refl, ℕ, Bool, true, false, List, [], ◌∷◌, ◌++◌, map}
use Rattle.std.proofs.Math.Option.{none, some}
use Rattle.model.specs.State.{State, Sizes, no_options, permission}
use Rattle.model.specs.Fields.{Field, fields}
use Rattle.model.specs.Making.{empty_tables}
use Rattle.model.specs.Perform.{Step, Call, popped, run}
use Rattle.model.proofs.Checked.Compute.{computing}
use Rattle.model.proofs.Checked.Script.{dom, access}
use Rattle.follow.specs.Writer.{Seen, nothing, notices, follow, is_queued, is_queued_with, seen_rights}

abbrev sizes : Sizes
sizes = record { domains = 2; slots = 4; regions = 4; records = 8; updates = 4 }

abbrev start : State
start = empty_tables sizes

-- a writer that reads what is marked alone, and one that reads every count at every update of a domain
abbrev marked : Field → Bool
marked f = false

abbrev all : Field → Bool
all f = true

-- What was seen of domain d at address a: reach, READ and WRITE above 0, and the rights.
abbrev shown : Seen → ℕ → ℕ → Bool × Bool × Bool × ℕ
shown v d a = (v.above d a Field.Reach, v.above d a Field.Read, v.above d a Field.Write, seen_rights v d a)

-- After a list of calls: is an update of it queued, and what was seen.
abbrev known_to : (Field → Bool) → List Call → ℕ → ℕ → Bool × Bool × Bool × Bool × ℕ
known_to more cs d a = let x = shown (follow more nothing start cs) d a in (is_queued (run start cs).1 d, x.0, x.1, x.2, x.3)

abbrev known : List Call → ℕ → ℕ → Bool × Bool × Bool × Bool × ℕ
known = known_to marked

-- of reach, READ, WRITE, EXEC, SUPER: is an update with its mark queued?
abbrev waiting : List Call → ℕ → List Bool
waiting cs d = map (λ f. is_queued_with f (run start cs).1 d) fields

-- domain 0 and its domain 1, to which it may send; a root from 16 to 48 with READ, WRITE and UNCACHEABLE
abbrev began : List Call
began = Call.Do (Step.Open none 1) ∷ Call.Do (Step.Open (some (dom 0)) 2) ∷ Call.Do (Step.Root (dom 0) (access 16 48 131)) ∷ []

waits : known began 0 20 ≡ (true, false, false, false, 0)
unfolding computing follow
waits = refl

waits-with : waiting began 0 ≡ true ∷ true ∷ true ∷ false ∷ false ∷ []
unfolding computing
waits-with = refl

read-once : known (began ++ (Call.Pop ∷ [])) 0 20 ≡ (false, true, true, true, 131)
unfolding computing follow
read-once = refl

-- an alias with READ changes no right: nothing is queued, and what was seen is exact still
abbrev aliased : List Call
aliased = began ++ (Call.Pop ∷ Call.Do (Step.Alias (dom 0) 1 (access 16 32 1)) ∷ [])

as_before : known aliased 0 20 ≡ (false, true, true, true, 131)
unfolding computing follow
as_before = refl

-- the alias is sent to domain 1: its list changes alone, and is seen where its update is popped
sent-waits : known (aliased ++ (Call.Do (Step.Send (dom 0) 2 0 no_options) ∷ [])) 1 20 ≡ (true, false, false, false, 0)
unfolding computing follow
sent-waits = refl

sent-read : known (aliased ++ (Call.Do (Step.Send (dom 0) 2 0 no_options) ∷ Call.Pop ∷ [])) 1 20 ≡ (false, true, true, false, 1)
unfolding computing follow
sent-read = refl

-- and what was seen of domain 0 stays
kept : known (aliased ++ (Call.Do (Step.Send (dom 0) 2 0 no_options) ∷ Call.Pop ∷ [])) 0 20 ≡ (false, true, true, true, 131)
unfolding computing follow
kept = refl

-- the alias is revoked: a loss is seen like a gain
gone : known (aliased ++ (Call.Do (Step.Send (dom 0) 2 0 no_options) ∷ Call.Pop ∷ Call.Do (Step.Revoke (dom 1) 0) ∷ Call.Pop ∷ [])) 1 20 ≡ (false, false, false, false, 0)
unfolding computing follow
gone = refl

-- ---- an update that marks WRITE alone

-- a root with READ and UNCACHEABLE, read; then one over it with READ and WRITE: of reach and READ nothing new
abbrev more-write : List Call
more-write = Call.Do (Step.Open none 1) ∷ Call.Do (Step.Root (dom 0) (access 16 48 129)) ∷ Call.Pop ∷ Call.Do (Step.Root (dom 0) (access 16 32 3)) ∷ []

write-waits : waiting more-write 0 ≡ false ∷ false ∷ true ∷ false ∷ false ∷ []
unfolding computing
write-waits = refl

write-unseen : known more-write 0 20 ≡ (true, true, true, false, 129)
unfolding computing follow
write-unseen = refl

write_read : known (more-write ++ (Call.Pop ∷ [])) 0 20 ≡ (false, true, true, true, 131)
unfolding computing follow
write_read = refl

-- whoever reads more has seen the same
write-read-all : known_to all (more-write ++ (Call.Pop ∷ [])) 0 20 ≡ (false, true, true, true, 131)
unfolding computing follow
write-read-all = refl

-- a root elsewhere with EXEC: its marks join the update that waits
gathered : waiting (more-write ++ (Call.Do (Step.Root (dom 0) (access 48 64 4)) ∷ [])) 0 ≡ true ∷ false ∷ true ∷ true ∷ false ∷ []
unfolding computing
gathered = refl

-- ---- UNCACHEABLE has no mark of its own

-- a root with no other right marks the reach alone, and UNCACHEABLE is read with it
uncacheable-alone : known (Call.Do (Step.Open none 1) ∷ Call.Do (Step.Root (dom 0) (access 16 48 128)) ∷ Call.Pop ∷ []) 0 20 ≡ (false, true, false, false, 128)
unfolding computing follow
uncacheable-alone = refl

-- ---- what one pop reads, by its marks, where nothing was seen before

abbrev reading : (Field → Bool) → ℕ → Bool × Bool × Bool × ℕ
reading more marks = shown (notices more nothing (popped (some (permission (dom 0) 1 marks))) (run start began).1) 0 20

-- WRITE alone; READ alone; UNCACHEABLE with the reach; with all that is above 0
by-marks : map (reading marked) (4 ∷ 2 ∷ 1 ∷ 7 ∷ []) ≡ (false, false, true, 2) ∷ (false, true, false, 1) ∷ (true, false, false, 128) ∷ (true, true, true, 131) ∷ []
unfolding computing
by-marks = refl

-- a writer that reads every count does so whatever is marked
reads_all : reading all 4 ≡ (true, true, true, 131)
unfolding computing
reads_all = refl

-- ---- a domain is closed, and another is opened in its slot

-- Domain 1 is sent an alias with READ, which is seen, and then a carve from 32 on: domain 0 has lost that, and is read; domain 1's update waits.
abbrev lent : List Call
lent = Call.Do (Step.Open none 1) ∷ Call.Do (Step.Open (some (dom 0)) 0) ∷ Call.Do (Step.Root (dom 0) (access 16 48 131)) ∷ Call.Do (Step.Alias (dom 0) 1 (access 16 32 1))
    ∷ Call.Do (Step.Send (dom 0) 2 0 no_options) ∷ Call.Pop ∷ Call.Pop ∷ Call.Do (Step.Carve (dom 0) 1 (access 32 48 131)) ∷ Call.Do (Step.Send (dom 0) 2 0 no_options) ∷ Call.Pop ∷ []

lent-waits : known lent 0 40 ∷ known lent 1 20 ∷ [] ≡ (false, false, false, false, 0) ∷ (true, true, true, false, 1) ∷ []
unfolding computing follow
lent-waits = refl

lent-waits-with : waiting lent 1 ≡ true ∷ true ∷ true ∷ false ∷ false ∷ []
unfolding computing
lent-waits-with = refl

-- domain 0 closes it
abbrev closed : List Call
closed = lent ++ (Call.Do (Step.Revoke (dom 0) 0) ∷ [])

-- the carve is given back, and domain 0's update waits; the old update of slot 1 is of no domain that is there
closed-waits : known closed 0 40 ∷ known closed 1 20 ∷ [] ≡ (true, false, false, false, 0) ∷ (false, true, true, false, 1) ∷ []
unfolding computing follow
closed-waits = refl

-- popped while the slot is empty it teaches nothing
closed-popped : known (closed ++ (Call.Pop ∷ [])) 1 20 ≡ (false, true, true, false, 1)
unfolding computing follow
closed-popped = refl

-- an opening voids what was seen of the slot
abbrev reopened : List Call
reopened = closed ++ (Call.Do (Step.Open (some (dom 0)) 0) ∷ [])

reopened-void : known reopened 1 20 ≡ (false, false, false, false, 0)
unfolding computing follow
reopened-void = refl

-- the new domain gets a root with EXEC: its update waits behind the old one, and domain 0's
abbrev again : List Call
again = reopened ++ (Call.Do (Step.Root (record { slot = 1; generation = 1 }) (access 16 48 4)) ∷ [])

-- the old update's pop reads nothing of the new domain, whatever more the writer reads
old-popped : map (λ more. known_to more (again ++ (Call.Pop ∷ [])) 1 20) (marked ∷ all ∷ []) ≡ (true, false, false, false, 0) ∷ (true, false, false, false, 0) ∷ []
unfolding computing follow
old-popped = refl

-- then domain 0 is read, and then the new domain
others-popped : known (again ++ (Call.Pop ∷ Call.Pop ∷ [])) 0 40 ∷ known (again ++ (Call.Pop ∷ Call.Pop ∷ Call.Pop ∷ [])) 1 20 ∷ [] ≡ (false, true, true, true, 131) ∷ (false, true, false, false, 4) ∷ []
unfolding computing follow
others-popped = refl

-- ---- a making anew

anew : known (began ++ (Call.Pop ∷ Call.Make sizes ∷ [])) 0 20 ≡ (false, false, false, false, 0)
unfolding computing follow
anew = refl
