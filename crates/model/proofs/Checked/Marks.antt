-- Cases of document 02's request 4, marks: what is popped after lists of calls, and how many entries the queue has. One table, proved by one theorem.
-- Bits 0 to 4 are reach, READ, WRITE, EXEC, SUPER.
use Rattle.std.specs.Prelude.{◌≡◌, refl, ℕ, ◌-◌, List, [], ◌∷◌, ◌++◌, map, length, drop}
use Rattle.std.proofs.Math.Option.{none, some}
use Rattle.refusals.specs.Refusals.{no_tracker, ring_full}
use Rattle.model.specs.State.{no_options, permission, cleanup}
use Rattle.model.specs.Making.{empty_tables}
use Rattle.model.specs.Layout.{words}
use Rattle.model.specs.Perform.{Step, Call, Value, popped, Answer, values, run}
use Rattle.model.proofs.Checked.Compute.{computing}
use Rattle.model.proofs.Checked.Script.{dom, access}
use Rattle.model.proofs.Checked.OurCases.{SizedCase, answered, gives, z, opened, root_of, channel, revoke}

-- ---- calls for short

-- the answer of a pop: a domain with its core map and marks; nothing
abbrev pops : ℕ → ℕ → ℕ → Answer
pops d cores marks = Answer.yes (Value.popped (some (permission (dom d) cores marks)))

abbrev none_left : Answer
none_left = Answer.yes (Value.popped none)

-- domain 0's carve and alias of the region in slot l
abbrev carve_of : ℕ → ℕ → ℕ → ℕ → Call
carve_of l s e r = Call.Do (Step.Carve (dom 0) l (access s e r))

abbrev alias_of : ℕ → ℕ → ℕ → ℕ → Call
alias_of l s e r = Call.Do (Step.Alias (dom 0) l (access s e r))

-- domain 1's root of a range
abbrev other_root : ℕ → ℕ → ℕ → Call
other_root s e r = Call.Do (Step.Root (dom 1) (access s e r))

-- domain 0 with core map 1, and a root 0 to 16 with READ and WRITE
abbrev one : List Call
one = opened 1 ∷ root_of 0 16 3 ∷ []

-- domains 0 and 1, both with a root; the first updates are still queued
abbrev both : List Call
both = opened 1 ∷ opened 2 ∷ root_of 0 16 3 ∷ other_root 32 48 4 ∷ []

-- domain 0 holds 0 to 16 by a root with READ and by a carve with READ and WRITE of another, in one tracker record; its update is popped
abbrev carved : List Call
carved = opened 1 ∷ Call.Do (Step.Open (some (dom 0)) 2) ∷ root_of 0 16 3 ∷ root_of 0 16 1 ∷ carve_of 1 0 16 3 ∷ Call.Pop ∷ []

-- the carve is sent to domain 1
abbrev sent : Call
sent = Call.Do (Step.Send (dom 0) 3 0 no_options)

-- ---- the table

abbrev table : List SizedCase
table =
    -- "whether that count came to or left 0": reach, READ, WRITE
    gives (z 2 4 4 4 4) one Call.Pop (pops 0 1 7)
    -- a range with no right at all: reach alone
    ∷ gives (z 2 4 4 4 4) (opened 1 ∷ root_of 0 16 0 ∷ []) Call.Pop (pops 0 1 1)
    -- with every right; UNCACHEABLE has no mark
    ∷ gives (z 2 4 4 4 4) (opened 1 ∷ root_of 0 16 143 ∷ []) Call.Pop (pops 0 1 31)
    -- a second root over the first: EXEC alone came from 0
    ∷ gives (z 2 4 4 4 4) (one ++ (Call.Pop ∷ root_of 4 8 5 ∷ [])) Call.Pop (pops 0 1 8)
    -- no count came to or left 0: nothing is queued
    ∷ gives (z 2 4 4 4 4) (one ++ (Call.Pop ∷ root_of 4 8 1 ∷ [])) Call.Pop none_left
    ∷ gives (z 2 4 4 4 4) (one ++ (Call.Pop ∷ alias_of 0 4 8 1 ∷ [])) Call.Pop none_left
    -- "somewhere in the range": over a record and over a gap behind it
    ∷ gives (z 2 4 4 4 4) (opened 1 ∷ root_of 0 16 15 ∷ Call.Pop ∷ root_of 8 24 1 ∷ []) Call.Pop (pops 0 1 3)
    -- of a gain and a loss, not of their sum: a carve with READ loses reach, READ and WRITE and gains reach and READ
    ∷ gives (z 2 4 4 4 4) (one ++ (Call.Pop ∷ carve_of 0 4 8 1 ∷ [])) Call.Pop (pops 0 1 7)
    -- where another range holds READ there: WRITE alone
    ∷ gives (z 2 4 4 8 4) (one ++ (root_of 4 8 1 ∷ Call.Pop ∷ carve_of 0 4 8 1 ∷ [])) Call.Pop (pops 0 1 4)
    -- "by union with those of later changes": 7 and 9
    ∷ gives (z 2 4 4 4 4) (one ++ (root_of 20 24 4 ∷ [])) Call.Pop (pops 0 1 15)
    -- in one entry
    ∷ gives (z 2 4 4 4 4) (one ++ (root_of 20 24 4 ∷ Call.Pop ∷ [])) Call.Pop none_left
    -- "Domain, core map and place in the queue are as before"
    ∷ gives (z 2 4 4 4 4) (both ++ (Call.Do (Step.SetCoreMap (dom 0) 6) ∷ root_of 20 24 8 ∷ [])) Call.Pop (pops 0 1 23)
    -- the other domain's entry gathers nothing
    ∷ gives (z 2 4 4 4 4) (both ++ (root_of 20 24 8 ∷ Call.Pop ∷ [])) Call.Pop (pops 1 2 9)
    -- "until it is popped": then marks begin anew, with the core map of that moment
    ∷ gives (z 2 4 4 4 4) (one ++ (Call.Pop ∷ Call.Do (Step.SetCoreMap (dom 0) 6) ∷ root_of 20 24 4 ∷ [])) Call.Pop (pops 0 6 9)
    -- a full ring: a domain that is queued gathers, another is refused
    ∷ gives (z 2 4 4 4 1) (one ++ (root_of 20 24 4 ∷ [])) Call.Pop (pops 0 1 15)
    ∷ gives (z 2 4 4 4 1) (opened 1 ∷ opened 2 ∷ root_of 0 16 3 ∷ []) (other_root 32 48 4) (Answer.no ring_full)
    -- a refused call leaves the queue: its loss of WRITE would be marked, and its gain finds no tracker record
    ∷ gives (z 2 4 4 1 4) carved sent (Answer.no no_tracker)
    ∷ gives (z 2 4 4 1 4) (carved ++ (sent ∷ [])) Call.Pop none_left
    -- a revoke loses, and the parent gains: EXEC never moved
    ∷ gives (z 2 4 4 4 4) (one ++ (carve_of 0 4 8 3 ∷ Call.Pop ∷ revoke 1 ∷ [])) Call.Pop (pops 0 1 7)
    -- a range to be cleaned up has no marks, and stands behind the domain
    ∷ gives (z 2 4 4 4 4) (one ++ (carve_of 0 4 8 35 ∷ Call.Pop ∷ revoke 1 ∷ Call.Pop ∷ [])) Call.Pop (Answer.yes (Value.popped (some (cleanup 4 8))))
    -- a region sent to its own domain: each range leaves and joins
    ∷ gives (z 2 4 4 4 4) (one ++ (channel ∷ Call.Pop ∷ Call.Do (Step.Send (dom 0) 0 1 no_options) ∷ [])) Call.Pop (pops 0 1 7)
    ∷ []

-- ---- the answers

pub mark-answers : map answered table ≡ map (λ x. x.answer) table
unfolding computing
mark-answers = refl

-- "Pop answers them": kind, domain slot, generation, core map, marks; a range and nothing have none
pub pop-values : map values (popped (some (permission (dom 1) 5 7)) ∷ popped (some (cleanup 4 8)) ∷ popped none ∷ [])
    ≡ (1 ∷ 1 ∷ 0 ∷ 5 ∷ 7 ∷ [])
    ∷ (2 ∷ 4 ∷ 8 ∷ 0 ∷ 0 ∷ [])
    ∷ (0 ∷ 0 ∷ 0 ∷ 0 ∷ 0 ∷ [])
    ∷ []
pop-values = refl

-- ---- their words: the marks stand behind all other sections, by place

-- of a ring with three places
abbrev section : List Call → List ℕ
section cs = let t = words (run (empty_tables (z 1 4 4 4 2)) cs).1 in drop (length t - 3) t

pub mark-section : section one ≡ 7 ∷ 0 ∷ 0 ∷ []
unfolding computing
mark-section = refl

-- a popped place has none, and the next update stands in the next place
pub next-section : section (one ++ (Call.Pop ∷ root_of 20 24 4 ∷ [])) ≡ 0 ∷ 9 ∷ 0 ∷ []
unfolding computing
next-section = refl

-- a carve with CLEANUP is revoked: domain 0 stands in the last place, and the range, which has no marks, in the first
pub round-section : section (one ++ (Call.Pop ∷ carve_of 0 4 8 35 ∷ Call.Pop ∷ revoke 1 ∷ [])) ≡ 0 ∷ 0 ∷ 7 ∷ []
unfolding computing
round-section = refl
