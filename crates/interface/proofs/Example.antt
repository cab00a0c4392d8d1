-- `fewer-bits` speaks of one call: of lists of calls the same is false. The second list takes the bit ALIAS away; then its root is accepted, which the first
-- list's alias left no slot for.
use Rattle.std.specs.Prelude.{◌≡◌, refl, ℕ, List, [], ◌∷◌, ◌++◌, drop}
use Rattle.std.proofs.Math.Option.{none}
use Rattle.refusals.specs.Refusals.{no_local, not_allowed}
use Rattle.model.specs.State.{Sizes}
use Rattle.model.specs.Making.{empty_tables}
use Rattle.model.specs.Perform.{Step, Call, Value, Answer, run}
use Rattle.model.proofs.Checked.Compute.{computing}
use Rattle.model.proofs.Checked.Script.{dom, access}

-- two slots in a list
abbrev sizes : Sizes
sizes = record { domains = 1; slots = 2; regions = 4; records = 8; updates = 4 }

-- an alias of the region in slot 0, and a root elsewhere
abbrev calls : List Call
calls = Call.Do (Step.Alias (dom 0) 0 (access 0 8 3)) ∷ Call.Do (Step.Root (dom 0) (access 16 32 3)) ∷ []

-- the domain's word is `word`, and a root is in slot 0
abbrev begun : ℕ → List Call
begun word = Call.Do (Step.Open none 1) ∷ Call.Do (Step.SetInterface (dom 0) word) ∷ Call.Do (Step.Root (dom 0) (access 0 16 3)) ∷ []

abbrev answers : ℕ → List Answer
answers word = drop 3 (run (empty_tables sizes) (begun word ++ calls)).0

pub fewer-bits-not-of-lists : (answers 26 ≡ Answer.yes (Value.local 1) ∷ Answer.no no_local ∷ []) × (answers 18 ≡ Answer.no not_allowed ∷ Answer.yes (Value.local 1) ∷ [])
unfolding computing
fewer-bits-not-of-lists = (refl, refl)
