-- Cases of our own for a domain's interface (document 02, request 2): what is answered, and which interface is stored then.
use Rattle.std.specs.Prelude.{◌≡◌, refl, ℕ, ◌-◌, ◌^◌, Bool, true, false, List, [], ◌∷◌, ◌++◌, map, length, take, drop}
use Rattle.std.proofs.Math.Option.{none, some}
use Rattle.refusals.specs.Refusals.{no_domain, no_slot, not_allowed, is_frozen}
use Rattle.model.specs.State.{Sizes, Handle, Interface, no_options, domain_at}
use Rattle.model.specs.Making.{empty_tables}
use Rattle.model.specs.Layout.{words}
use Rattle.model.specs.Perform.{Step, Call, Value, Answer, run}
use Rattle.model.proofs.Checked.Compute.{computing}
use Rattle.model.proofs.Checked.Script.{dom, access}
use Rattle.model.proofs.Checked.Edges.{passes}
use Rattle.model.proofs.Checked.OurCases.{SizedCase, answered, z, opened, root_of, revoke, gives}

-- ---- calls for short

-- domain 1 under domain 0, with its Management in slot 0; a root 0 to 16 with rights 3 in slot 1, an alias 0 to 8 of it in slot 2
abbrev small : Sizes
small = z 3 6 5 8 4

abbrev alias : ℕ → Call
alias l = Call.Do (Step.Alias (dom 0) l (access 0 8 3))

abbrev carve : ℕ → Call
carve l = Call.Do (Step.Carve (dom 0) l (access 8 16 3))

abbrev sends : ℕ → ℕ → Call
sends l target = Call.Do (Step.Send (dom 0) l target no_options)

abbrev under : Call
under = Call.Do (Step.Open (some (dom 0)) 0)

abbrev two : List Call
two = opened 0 ∷ under ∷ root_of 0 16 3 ∷ alias 1 ∷ []

-- the word of domain d set; domain d frozen
abbrev set : ℕ → ℕ → Call
set d word = Call.Do (Step.SetInterface (dom d) word)

abbrev freeze : ℕ → Call
freeze d = Call.Do (Step.FreezeInterface (dom d))

abbrev done : Answer
done = Answer.yes Value.done

-- a handle that is older or newer than its slot
abbrev dead : Handle
dead = record { slot = 0; generation = 1 }

-- ---- what is answered

abbrev pub table : List SizedCase
table =
    -- "20 for a missing bit": each of the three bits by itself, all others set
    gives small (two ++ (set 0 (2 ^ 64 - 1 - 8) ∷ [])) (alias 1) (Answer.no not_allowed)
    ∷ gives small (two ++ (set 0 (2 ^ 64 - 1 - 16) ∷ [])) (carve 1) (Answer.no not_allowed)
    ∷ gives small (two ++ (set 0 (2 ^ 64 - 1 - 2) ∷ [])) (sends 2 0) (Answer.no not_allowed)
    -- and with no other bit set
    ∷ gives small (two ++ (set 0 8 ∷ [])) (alias 1) (passes 3)
    ∷ gives small (two ++ (set 0 16 ∷ [])) (carve 1) (passes 3)
    ∷ gives small (two ++ (set 0 2 ∷ [])) (sends 2 0) (passes 0)
    -- "right after the caller's 3": a dead caller; a free slot, a target of the wrong kind, a flag that is refused
    ∷ gives small (two ++ (set 0 0 ∷ [])) (Call.Do (Step.Alias dead 1 (access 0 8 3))) (Answer.no no_domain)
    ∷ gives small (two ++ (set 0 0 ∷ [])) (alias 5) (Answer.no not_allowed)
    ∷ gives small (two ++ (set 0 0 ∷ [])) (carve 0) (Answer.no not_allowed)
    ∷ gives small (two ++ (set 0 0 ∷ [])) (sends 2 1) (Answer.no not_allowed)
    ∷ gives small (two ++ (set 0 0 ∷ [])) (sends 2 5) (Answer.no not_allowed)
    ∷ gives small (two ++ (set 0 0 ∷ [])) (Call.Do (Step.Send (dom 0) 2 0 (record { flags = some 255; hash = none }))) (Answer.no not_allowed)
    -- the caller's word, not the target's, and not another's
    ∷ gives small (two ++ (set 1 0 ∷ [])) (sends 2 0) (passes 0)
    ∷ gives small (two ++ (set 0 0 ∷ [])) (Call.Do (Step.Alias (dom 1) 0 (access 0 8 3))) (Answer.no no_slot)
    ∷ gives small (two ++ (set 1 0 ∷ [])) (Call.Do (Step.Alias (dom 1) 0 (access 0 8 3))) (Answer.no not_allowed)
    -- "Revoke needs no bit", nor does a root, a RegionRevoke, a channel or an opening
    ∷ gives small (two ++ (set 0 0 ∷ [])) (revoke 2) done
    ∷ gives small (two ++ (set 0 0 ∷ [])) (root_of 16 32 3) (passes 3)
    ∷ gives small (two ++ (set 0 0 ∷ [])) (Call.Do (Step.CreateRevokeCapa (dom 0) 2)) (passes 3)
    ∷ gives small (two ++ (set 0 0 ∷ [])) (Call.Do (Step.Channel (dom 0) (dom 1))) (passes 3)
    ∷ gives small (two ++ (set 0 0 ∷ [])) under (Answer.yes (Value.domain (dom 2)))
    -- "21 for setting a frozen word, right after 3", also to the value that it has; another domain's is not frozen
    ∷ gives small (two ++ (freeze 0 ∷ [])) (set 0 0) (Answer.no is_frozen)
    ∷ gives small (two ++ (freeze 0 ∷ [])) (set 0 26) (Answer.no is_frozen)
    ∷ gives small (two ++ (freeze 0 ∷ [])) (set 1 0) done
    ∷ gives small (two ++ (freeze 0 ∷ [])) (Call.Do (Step.SetInterface dead 0)) (Answer.no no_domain)
    ∷ gives small two (set 2 0) (Answer.no no_domain)
    -- "Freezing twice is accepted"; what is frozen still sends
    ∷ gives small (two ++ (freeze 0 ∷ [])) (freeze 0) done
    ∷ gives small (two ++ (freeze 0 ∷ [])) (sends 2 0) (passes 0)
    ∷ gives small two (freeze 2) (Answer.no no_domain)
    ∷ []

pub interface-answers : map answered table ≡ map (λ x. x.answer) table
unfolding computing
interface-answers = refl

-- ---- which interface is stored

-- After the calls `given`, the domain in slot `at` has this interface.
record StoredCase : Type 0 where
  given : List Call
  at : ℕ
  stored : Interface

abbrev after : StoredCase → StoredCase
after x = record { given = x.given; at = x.at; stored = (domain_at (run (empty_tables small) x.given).1 x.at).interface }

abbrev leaves : List Call → ℕ → ℕ → Bool → StoredCase
leaves cs d word frozen = record { given = cs; at = d; stored = record { word = word; frozen = frozen } }

abbrev stored : List StoredCase
stored =
    -- "A domain opens with all three set and unfrozen", whatever its manager's word and freeze
    leaves two 0 26 false
    ∷ leaves two 1 26 false
    ∷ leaves (two ++ (set 0 0 ∷ freeze 0 ∷ under ∷ [])) 2 26 false
    -- "set by the platform to any value", in place of the last one
    ∷ leaves (two ++ (set 0 18_446_744_073_709_551_615 ∷ [])) 0 18_446_744_073_709_551_615 false
    ∷ leaves (two ++ (set 0 8 ∷ set 0 5 ∷ [])) 0 5 false
    ∷ leaves (two ++ (set 0 8 ∷ [])) 1 26 false
    -- a freeze keeps the word, of its own domain alone, and stays; a refused setting leaves both
    ∷ leaves (two ++ (set 0 5 ∷ freeze 0 ∷ [])) 0 5 true
    ∷ leaves (two ++ (freeze 0 ∷ [])) 1 26 false
    ∷ leaves (two ++ (freeze 0 ∷ freeze 0 ∷ [])) 0 26 true
    ∷ leaves (two ++ (freeze 0 ∷ set 0 5 ∷ [])) 0 26 true
    ∷ leaves (two ++ (freeze 1 ∷ sends 2 0 ∷ [])) 1 26 true
    ∷ []

interface-stored : map after stored ≡ stored
unfolding computing
interface-stored = refl

-- ---- its words

-- the interfaces' section: two words for each of three domains, the last of them free; five marks are behind it
interface-section : (let t = words (run (empty_tables small) (two ++ (set 0 5 ∷ freeze 0 ∷ []))).1 in take 6 (drop (length t - 11) t)) ≡ 5 ∷ 1 ∷ 26 ∷ 0 ∷ 0 ∷ 0 ∷ []
unfolding computing
interface-section = refl
