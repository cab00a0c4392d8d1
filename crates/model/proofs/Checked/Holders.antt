-- Cases of document 02's request 6, the holders of an address: domain slot rising, each domain once.
use Rattle.std.specs.Prelude.{◌≡◌, refl, ℕ, List, [], ◌∷◌, ◌++◌, map}
use Rattle.model.specs.Perform.{Reading, Call, Value, Answer}
use Rattle.model.proofs.Checked.Compute.{computing}
use Rattle.model.proofs.Checked.OurCases.{SizedCase, answered, gives, z, opened, root_of, revoke}
use Rattle.model.proofs.Checked.Closing.{under, alias, send}

-- domains 1 and 2 below domain 0, Management in its slots 0 and 1, its root 0 to 16 in slot 2; domain 2 was sent aliases 0 to 8 and 8 to 16
abbrev sent : List Call
sent = opened 0 ∷ under 0 0 ∷ under 0 0 ∷ root_of 0 16 3 ∷ alias 0 2 0 8 3 ∷ send 0 3 1 ∷ alias 0 2 8 16 3 ∷ send 0 3 1 ∷ []

-- domain 1 closed and opened again, Management in slot 3, and sent an alias 0 to 16: the last to gain it, in a low slot
abbrev reopened : List Call
reopened = sent ++ (revoke 0 ∷ under 0 0 ∷ alias 0 2 0 16 3 ∷ send 0 4 3 ∷ [])

-- after these calls the holders of address a are these
abbrev lists : List Call → ℕ → List ℕ → SizedCase
lists before a l = gives (z 4 6 8 8 4) before (Call.Read (Reading.Holders a)) (Answer.yes (Value.domain_list l))

abbrev table : List SizedCase
table =
    lists sent 5 (0 ∷ 2 ∷ [])
    ∷ lists reopened 5 (0 ∷ 1 ∷ 2 ∷ [])
    -- on both sides of where domain 2's records meet
    ∷ lists reopened 7 (0 ∷ 1 ∷ 2 ∷ [])
    ∷ lists reopened 8 (0 ∷ 1 ∷ 2 ∷ [])
    -- the last address of the ranges, and the one behind it
    ∷ lists reopened 15 (0 ∷ 1 ∷ 2 ∷ [])
    ∷ lists reopened 16 []
    -- a closed domain holds nothing
    ∷ lists (reopened ++ (revoke 3 ∷ [])) 5 (0 ∷ 2 ∷ [])
    -- 2^64 - 1 is in no range
    ∷ lists reopened 18446744073709551615 []
    ∷ []

pub holders-listed : map answered table ≡ map (λ x. x.answer) table
unfolding computing
holders-listed = refl
