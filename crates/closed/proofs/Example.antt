-- A close computed. Domain 0, a customer, has a root 0 to 16 with READ and WRITE. It carves 4 to 8 out with READ alone and sends that to its supplier's
-- domain 1, which sends an alias 4 to 6 of it to its own domain 2. Domain 0 has an alias 0 to 4, whose RegionRevoke it sent to domain 1, with an alias 0 to 2
-- of that, and an alias 8 to 12. Then it ends the contract with 1.
use Rattle.std.specs.Prelude.{◌≡◌, refl, ℕ, true, false, List, [], ◌∷◌, ◌++◌, map, eqb}
use Rattle.std.proofs.Math.Option.{none, some}
use Rattle.model.specs.Lists.{count_up}
use Rattle.model.specs.State.{State, no_options}
use Rattle.model.specs.Fields.{Field, get}
use Rattle.model.specs.Counts.{stored_counts, region_count}
use Rattle.model.specs.Closing.{is_to_close}
use Rattle.model.specs.Making.{empty_tables}
use Rattle.model.specs.Perform.{Step, Call, run}
use Rattle.model.proofs.Checked.Compute.{computing}
use Rattle.model.proofs.Checked.Script.{dom, access}
use Rattle.closed.specs.Ends.{is_named, is_taken, dies_within, dies, left_from, regions_left, lost, returned}

abbrev calls : List Call
calls =
    Call.Do (Step.Open none 0)
    ∷ Call.Do (Step.Open (some (dom 0)) 0)
    ∷ Call.Do (Step.Open (some (dom 1)) 0)
    ∷ Call.Do (Step.Root (dom 0) (access 0 16 3))
    ∷ Call.Do (Step.Carve (dom 0) 1 (access 4 8 1))
    ∷ Call.Do (Step.Send (dom 0) 2 0 no_options)
    ∷ Call.Do (Step.Alias (dom 1) 1 (access 4 6 1))
    ∷ Call.Do (Step.Send (dom 1) 2 0 no_options)
    ∷ Call.Do (Step.Alias (dom 0) 1 (access 0 4 3))
    ∷ Call.Do (Step.CreateRevokeCapa (dom 0) 2)
    ∷ Call.Do (Step.Send (dom 0) 3 0 no_options)
    ∷ Call.Do (Step.Alias (dom 0) 1 (access 8 12 3))
    ∷ Call.Do (Step.Alias (dom 0) 2 (access 0 2 3))
    ∷ []

abbrev start : State
start = empty_tables (record { domains = 3; slots = 5; regions = 6; records = 8; updates = 8 })

abbrev before : State
before = (run start calls).1

abbrev after : State
after = (run start (calls ++ (Call.Do (Step.Revoke (dom 0) 0) ∷ []))).1

-- reach and the count of WRITE of domain e at 1, 5 and 9
abbrev at_three : (Field → ℕ → ℕ → ℕ) → ℕ → List ℕ
at_three n e = map (n Field.Reach e) (1 ∷ 5 ∷ 9 ∷ []) ++ map (n Field.Write e) (1 ∷ 5 ∷ 9 ∷ [])

abbrev stored_in : State → ℕ → List ℕ
stored_in s = at_three (λ f e a. get f (stored_counts s e a))

-- domains 1 and 2 are closed
closed-domains : map (is_to_close before 1) (count_up 0 3) ≡ false ∷ true ∷ true ∷ []
unfolding computing
closed-domains = refl

-- the carve dies, the alias of it, and the alias that domain 1 has a RegionRevoke of, with the one below it; the root and the alias 8 to 12 are left
dead-regions : map (dies before (is_taken before 1)) (count_up 0 6) ≡ false ∷ true ∷ true ∷ true ∷ false ∷ true ∷ []
unfolding computing is_named is_taken dies_within dies
dead-regions = refl

-- a revoke of that alias alone takes it with the one below it
taken_back : map (dies before (eqb 3)) (count_up 0 6) ≡ false ∷ false ∷ false ∷ true ∷ false ∷ true ∷ []
unfolding computing dies_within dies
taken_back = refl

stored-before : map (stored_in before) (count_up 0 3) ≡ (3 ∷ 0 ∷ 2 ∷ 3 ∷ 0 ∷ 2 ∷ []) ∷ (0 ∷ 1 ∷ 0 ∷ 0 ∷ 0 ∷ 0 ∷ []) ∷ (0 ∷ 1 ∷ 0 ∷ 0 ∷ 0 ∷ 0 ∷ []) ∷ []
unfolding computing
stored-before = refl

-- domain 0 has its range back at 5, with WRITE, and at 1 lost what the RegionRevoke named, with what was below
abbrev numbers_after : List (List ℕ)
numbers_after = (1 ∷ 1 ∷ 2 ∷ 1 ∷ 1 ∷ 2 ∷ []) ∷ (0 ∷ 0 ∷ 0 ∷ 0 ∷ 0 ∷ 0 ∷ []) ∷ (0 ∷ 0 ∷ 0 ∷ 0 ∷ 0 ∷ 0 ∷ []) ∷ []

stored-after : map (stored_in after) (count_up 0 3) ≡ numbers_after
unfolding computing
stored-after = refl

-- as the tables before the close tell
told-before : map (at_three (λ f e a. region_count f (regions_left before (is_taken before 1)) e a)) (count_up 0 3) ≡ numbers_after
unfolding computing is_named is_taken dies_within dies left_from regions_left
told-before = refl

-- of the reach of domain 0 at 1, 5 and 9: what goes, and what returns
goes-there : map (lost before (is_taken before 1) Field.Reach 0) (1 ∷ 5 ∷ 9 ∷ []) ≡ 2 ∷ 0 ∷ 0 ∷ []
unfolding computing is_named is_taken dies_within dies left_from regions_left
goes-there = refl

returns-there : map (returned before (is_taken before 1) Field.Reach 0) (1 ∷ 5 ∷ 9 ∷ []) ≡ 0 ∷ 1 ∷ 0 ∷ []
unfolding computing is_named is_taken dies_within dies left_from regions_left
returns-there = refl
