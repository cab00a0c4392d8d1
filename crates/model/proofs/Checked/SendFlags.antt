-- Cases of our own for a send with a flag word (document 02, request 1). One table, proved by one theorem.
use Rattle.std.specs.Prelude.{◌≡◌, refl, ℕ, List, [], ◌∷◌, ◌++◌, map}
use Rattle.std.proofs.Math.Option.{none, some}
use Rattle.refusals.specs.Refusals.{stale, not_carried, bad_flag}
use Rattle.model.specs.State.{Sizes, cleanup, region_at}
use Rattle.model.specs.Making.{empty_tables}
use Rattle.model.specs.Perform.{Step, Reading, Call, Value, Answer, run}
use Rattle.model.proofs.Checked.Compute.{computing}
use Rattle.model.proofs.Checked.Script.{dom, access}
use Rattle.model.proofs.Checked.Edges.{passes}
use Rattle.model.proofs.Checked.OurCases.{SizedCase, answered, z, opened, root_of, channel, revoke, gives}

-- ---- calls for short

-- a send with a flag word and no hash, from a slot of domain 0 through its slot 0
abbrev send_flags : ℕ → ℕ → Call
send_flags l f = Call.Do (Step.Send (dom 0) l 0 (record { flags = some f; hash = none }))

-- domain 1 under domain 0, with its Management in slot 0; a root 0 to 16 with rights 3 in slot 1; an alias of it in slot 2, an alias 4 to 8 of that in slot 3
abbrev small : Sizes
small = z 2 6 4 8 4

abbrev two : List Call
two =
    opened 0
    ∷ Call.Do (Step.Open (some (dom 0)) 0)
    ∷ root_of 0 16 3
    ∷ Call.Do (Step.Alias (dom 0) 1 (access 0 16 3))
    ∷ Call.Do (Step.Alias (dom 0) 2 (access 4 8 3))
    ∷ []

-- ---- the table

abbrev pub table : List SizedCase
table =
    -- "18 for a flag other than HASH, CLEANUP or VITAL": READ, and "UNCACHEABLE can't be added either"
    gives small two (send_flags 3 1) (Answer.no bad_flag)
    ∷ gives small two (send_flags 3 128) (Answer.no bad_flag)
    ∷ gives small two (send_flags 3 33) (Answer.no bad_flag)
    -- CLEANUP and VITAL may join, and a flag word without flags is one
    ∷ gives small two (send_flags 3 96) (passes 0)
    ∷ gives small two (send_flags 3 0) (passes 0)
    -- "For other capabilities both are ignored": a channel, a None; a Management is not carried
    ∷ gives small (two ++ (channel ∷ [])) (send_flags 4 255) (passes 0)
    ∷ gives small (two ++ (channel ∷ revoke 4 ∷ [])) (send_flags 4 255) (passes 0)
    ∷ gives small two (send_flags 0 255) (Answer.no not_carried)
    -- "both after 6": the region in slot 3 died with its parent
    ∷ gives small (two ++ (revoke 2 ∷ [])) (send_flags 3 255) (Answer.no stale)
    -- "must be wiped on return": CLEANUP that joined at a send queues the range when the parent's region is revoked
    ∷ gives small (two ++ (send_flags 3 32 ∷ revoke 2 ∷ Call.Pop ∷ Call.Pop ∷ [])) Call.Pop (Answer.yes (Value.popped (some (cleanup 4 8))))
    -- the permission lists do not show the flags
    ∷ gives small (two ++ (send_flags 3 32 ∷ [])) (Call.Read (Reading.Permissions (dom 1))) (Answer.yes (Value.permission_list (access 4 8 3 ∷ [])))
    ∷ []

pub flag-cases : map answered table ≡ map (λ x. x.answer) table
unfolding computing
flag-cases = refl

-- "the flags join the region's rights": 3 and CLEANUP are 35
flags-join : (region_at (run (empty_tables small) (two ++ (send_flags 3 32 ∷ []))).1 2).rights ≡ 35
unfolding computing
flags-join = refl
