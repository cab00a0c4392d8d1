-- Document 01's ◆ cases ("Edges, one root 0 to 16 with rights 3") as one table, proved by one theorem.
use Rattle.std.specs.Prelude.{◌≡◌, refl, ℕ, List, [], ◌∷◌, ◌++◌, map}
use Rattle.std.proofs.Math.Option.{none}
use Rattle.refusals.specs.Refusals.{bad_range, beyond}
use Rattle.model.specs.State.{no_options}
use Rattle.model.specs.Making.{empty_tables, script_sizes}
use Rattle.model.specs.Perform.{Step, Reading, Call, Value, Answer, step, run}
use Rattle.model.proofs.Checked.Compute.{computing}
use Rattle.model.proofs.Checked.Script.{dom, access, example}

-- After the calls `given`, the call `asked` is answered so.
pub record Case : Type 0 where
  pub given : List Call
  pub asked : Call
  pub answer : Answer

-- what the definitions answer
abbrev pub answered : Case → Answer
answered x = (step (run (empty_tables script_sizes) x.given).1 x.asked).0

-- ---- calls and answers for short

-- "one root 0 to 16 with rights 3", in local slot 0 of domain 0; alias and carve of it
abbrev pub root : List Call
root = Call.Do (Step.Open none 0) ∷ Call.Do (Step.Root (dom 0) (access 0 16 3)) ∷ []

abbrev pub alias : ℕ → ℕ → ℕ → Call
alias s e r = Call.Do (Step.Alias (dom 0) 0 (access s e r))

abbrev pub carve : ℕ → ℕ → ℕ → Call
carve s e r = Call.Do (Step.Carve (dom 0) 0 (access s e r))

-- "passes", with the local slot; "gives 7", "gives 8"; a number; a permission list
abbrev pub passes : ℕ → Answer
passes l = Answer.yes (Value.local l)

abbrev number : ℕ → Answer
number n = Answer.yes (Value.number n)

-- "Carves 0 to 4 and 8 to 12" of a root in slot 1, which is then sent through the channel in slot 0
abbrev carved_and_sent : List Call
carved_and_sent =
    Call.Do (Step.Open none 0)
    ∷ Call.Do (Step.Open none 0)
    ∷ Call.Do (Step.Channel (dom 0) (dom 1))
    ∷ Call.Do (Step.Root (dom 0) (access 0 16 3))
    ∷ Call.Do (Step.Carve (dom 0) 1 (access 0 4 3))
    ∷ Call.Do (Step.Carve (dom 0) 1 (access 8 12 3))
    ∷ Call.Do (Step.Send (dom 0) 1 0 no_options)
    ∷ []

-- "After the example, B's revoke of local 0"
abbrev revoked_by_b : List Call
revoked_by_b = example ++ (Call.Do (Step.Revoke (dom 1) 0) ∷ [])

-- ---- the table

abbrev gives : List Call → Call → Answer → Case
gives before c a = record { given = before; asked = c; answer = a }

-- the ◆ cases, in document 01's order; the last three lines are one of them
abbrev pub table : List Case
table =
    gives root (alias 0 16 3) (passes 1)
    ∷ gives root (alias 0 17 3) (Answer.no beyond)
    ∷ gives root (alias 5 5 3) (Answer.no bad_range)
    ∷ gives root (alias 0 16 19) (passes 1)
    ∷ gives root (alias 0 16 4) (Answer.no beyond)
    ∷ gives (root ++ (carve 4 8 3 ∷ [])) (alias 8 16 3) (passes 2)
    ∷ gives (root ++ (carve 4 8 3 ∷ [])) (alias 7 9 3) (Answer.no beyond)
    ∷ gives (root ++ (alias 4 8 3 ∷ [])) (carve 6 7 3) (Answer.no beyond)
    ∷ gives carved_and_sent (Call.Read (Reading.Permissions (dom 1))) (Answer.yes (Value.permission_list (access 4 8 3 ∷ access 12 16 3 ∷ [])))
    ∷ gives root (Call.Read (Reading.Refcount (dom 0) 5 5)) (number 1)
    ∷ gives root (Call.Read (Reading.Refcount (dom 0) 0 0)) (number 0)
    ∷ gives root (Call.Read (Reading.Refcount (dom 0) 8 3)) (number 1)
    ∷ gives revoked_by_b (Call.Read (Reading.Permissions (dom 0))) (Answer.yes (Value.permission_list (access 0 4 3 ∷ access 4 16 3 ∷ [])))
    ∷ gives revoked_by_b (Call.Read (Reading.Refcount (dom 0) 0 4)) (number 2)
    ∷ gives revoked_by_b (Call.Read (Reading.Refcount (dom 0) 4 16)) (number 1)
    ∷ []

pub edges : map answered table ≡ map (λ x. x.answer) table
unfolding computing
edges = refl
