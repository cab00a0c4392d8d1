-- Cases of our own, not document 01's: what its ◆ cases do not notice. One table, proved by one theorem.
use Rattle.std.specs.Prelude.{◌≡◌, refl, ℕ, List, [], ◌∷◌, ◌++◌, map}
use Rattle.std.proofs.Math.Option.{none, some}
use Rattle.refusals.specs.Refusals.{no_domain, no_slot, stale, is_root, no_local}
use Rattle.model.specs.State.{Sizes, no_options, permission, cleanup}
use Rattle.model.specs.Making.{empty_tables}
use Rattle.model.specs.Perform.{Step, Reading, Call, Value, Answer, step, run}
use Rattle.model.proofs.Checked.Compute.{computing}
use Rattle.model.proofs.Checked.Script.{dom, access}
use Rattle.model.proofs.Checked.Edges.{root, alias, carve, passes}

-- After the calls `given` on empty tables of these sizes, the call `asked` is answered so.
pub record SizedCase : Type 0 where
  pub sizes : Sizes
  pub given : List Call
  pub asked : Call
  pub answer : Answer

-- what the definitions answer
abbrev pub answered : SizedCase → Answer
answered x = (step (run (empty_tables x.sizes) x.given).1 x.asked).0

-- ---- calls for short

-- domains, slots, regions, records, updates
abbrev pub z : ℕ → ℕ → ℕ → ℕ → ℕ → Sizes
z d s r t u = record { domains = d; slots = s; regions = r; records = t; updates = u }

-- domain 0 opened with a core map; its root of a range
abbrev pub opened : ℕ → Call
opened cores = Call.Do (Step.Open none cores)

abbrev pub root_of : ℕ → ℕ → ℕ → Call
root_of s e r = Call.Do (Step.Root (dom 0) (access s e r))

-- a channel of domain 0 to itself; its revoke of a slot
abbrev pub channel : Call
channel = Call.Do (Step.Channel (dom 0) (dom 0))

abbrev pub revoke : ℕ → Call
revoke l = Call.Do (Step.Revoke (dom 0) l)

-- an alias in slot 1 with children 0 to 4 and 0 to 8, both with CLEANUP; it is revoked, and the root's update popped
abbrev equal_starts : List Call
equal_starts =
    root
    ++ (alias 0 16 3
    ∷ Call.Do (Step.Alias (dom 0) 1 (access 0 4 35))
    ∷ Call.Do (Step.Alias (dom 0) 1 (access 0 8 35))
    ∷ revoke 1
    ∷ Call.Pop
    ∷ [])

-- domain 0 has aliases 0 to 8, 4 to 16 and 8 to 16 of a root of domain 1, and roots 20 to 24 and 28 to 32: five records
abbrev five_records : List Call
five_records =
    opened 0
    ∷ opened 0
    ∷ Call.Do (Step.Channel (dom 1) (dom 0))
    ∷ Call.Do (Step.Root (dom 1) (access 0 16 1))
    ∷ Call.Do (Step.Alias (dom 1) 1 (access 0 8 1))
    ∷ Call.Do (Step.Send (dom 1) 2 0 no_options)
    ∷ Call.Do (Step.Alias (dom 1) 1 (access 4 16 1))
    ∷ Call.Do (Step.Send (dom 1) 2 0 no_options)
    ∷ Call.Do (Step.Alias (dom 1) 1 (access 8 16 1))
    ∷ Call.Do (Step.Send (dom 1) 2 0 no_options)
    ∷ root_of 20 24 1
    ∷ root_of 28 32 1
    ∷ []

-- ---- the table

abbrev pub gives : Sizes → List Call → Call → Answer → SizedCase
gives z before c a = record { sizes = z; given = before; asked = c; answer = a }

abbrev pub table : List SizedCase
table =
    -- "a newcomer goes after equals": the first child goes first
    gives (z 1 4 4 4 4) equal_starts Call.Pop (Answer.yes (Value.popped (some (cleanup 0 4))))
    -- "Children go first, head child by head child": the second child goes, too, and the region
    ∷ gives (z 1 4 4 4 4) equal_starts (Call.Read (Reading.Permissions (dom 0))) (Answer.yes (Value.permission_list (access 0 16 3 ∷ [])))
    -- "The caller's slot becomes Capa::None, still in use until a sweep": the next capability does not go there
    ∷ gives (z 1 4 4 4 4) (root ++ (alias 0 16 3 ∷ revoke 1 ∷ [])) (alias 0 16 3) (passes 2)
    -- "slots holding None or a dead handle are freed in rising order", and "the slot freed last is given first"
    ∷ gives (z 1 2 2 2 2) (opened 0 ∷ channel ∷ channel ∷ revoke 0 ∷ revoke 1 ∷ []) channel (passes 1)
    -- "the sent slot, as it is after that sweep, 4"
    ∷ gives (z 1 2 4 4 4) (opened 0 ∷ channel ∷ channel ∷ revoke 1 ∷ []) (Call.Do (Step.Send (dom 0) 1 0 no_options)) (Answer.no no_slot)
    -- "12 at the target": a full list takes nothing, not even its own
    ∷ gives (z 1 2 4 4 4) (opened 0 ∷ channel ∷ root_of 0 16 3 ∷ []) (Call.Do (Step.Send (dom 0) 1 0 no_options)) (Answer.no no_local)
    -- 3 NoDomain, "or slot free": domain slot 1 was never opened, though its generation is 0
    ∷ gives (z 2 4 4 4 4) root (Call.Do (Step.Root (dom 1) (access 0 16 3))) (Answer.no no_domain)
    -- "If its rights word differs from the parent's, the domain loses the range with the parent's rights and gains it with the new ones"
    ∷ gives
    (z 1 4 4 4 4)
    (root ++ (carve 4 8 1 ∷ []))
    (Call.Read (Reading.Permissions (dom 0)))
    (Answer.yes (Value.permission_list (access 0 4 3 ∷ access 4 8 1 ∷ access 8 16 3 ∷ [])))
    -- "if equal, the tracker isn't touched"
    ∷ gives (z 1 4 4 4 4) (root ++ (Call.Pop ∷ carve 4 8 3 ∷ [])) Call.Pop (Answer.yes (Value.popped none))
    -- "loss splits, subtracts one and drops records at reach 0", each record in turn: 0 to 4 is dropped, and its slot goes to the split at 8
    ∷ gives (z 2 8 8 5 8) five_records (revoke 0) (Answer.yes Value.done)
    -- "The uncacheable count is 1 or 0 by the rights that made the record"
    ∷ gives
    (z 1 4 4 4 4)
    (opened 0 ∷ root_of 0 8 1 ∷ root_of 0 8 129 ∷ [])
    (Call.Read (Reading.Permissions (dom 0)))
    (Answer.yes (Value.permission_list (access 0 8 1 ∷ [])))
    -- "A change queues the domain with its core map unless it is queued already"
    ∷ gives
    (z 1 4 4 4 4)
    (opened 1 ∷ root_of 0 4 1 ∷ Call.Do (Step.SetCoreMap (dom 0) 2) ∷ root_of 4 8 1 ∷ [])
    Call.Pop
    (Answer.yes (Value.popped (some (permission (dom 0) 1 3))))
    -- "and CLEANUP queues start and end": after the tracker's changes
    ∷ gives
    (z 1 4 4 4 4)
    (root ++ (carve 4 8 35 ∷ Call.Pop ∷ revoke 1 ∷ []))
    Call.Pop
    (Answer.yes (Value.popped (some (permission (dom 0) 0 7))))
    -- "a RegionRevoke of a dead region succeeds"
    ∷ gives (z 1 4 4 4 4) (root ++ (carve 4 8 3 ∷ Call.Do (Step.CreateRevokeCapa (dom 0) 1) ∷ revoke 1 ∷ [])) (revoke 2) (Answer.yes Value.done)
    -- 9 of a revoke
    ∷ gives (z 1 4 4 4 4) root (revoke 0) (Answer.no is_root)
    -- 6 before 9: the region that slot 1 names is dead, and a root has its slot
    ∷ gives (z 1 8 4 4 4) (root ++ (carve 4 8 3 ∷ Call.Do (Step.CreateRevokeCapa (dom 0) 1) ∷ revoke 2 ∷ root_of 32 48 3 ∷ [])) (revoke 1) (Answer.no stale)
    ∷ []

pub our-cases : map answered table ≡ map (λ x. x.answer) table
unfolding computing
our-cases = refl
