-- What demand 3 shuts out by itself (document 01, "Shut out": "3 also the first and the invented reach"): an engine whose carve with other rights
-- "edits the tree and leaves the tracker", and one whose carve invents a reach. Demand 3 is stated for any engine; it holds for the model's and is
-- refuted for these two, by a list of calls with a carve with other rights and a revoke of a region with another below it.
use Rattle.std.specs.Prelude.{◌≡◌, ℕ, List, [], ◌∷◌}
use Rattle.model.specs.Lists.{Each}
use Rattle.model.specs.Outcome.{Outcome, ok, refuse}
use Rattle.model.specs.State.{State, Sizes, Access, domain_at, put_domain, with_tracker, with_record_pool}
use Rattle.model.specs.Regions.{activate}
use Rattle.model.specs.Making.{make_tables}
use Rattle.model.specs.Perform.{Step, Call, Answer, step}
use Rattle.model.specs.CallWords.{CallWords}
use Rattle.book.specs.Book.{blank}
use Rattle.book.specs.Demand3.{note_all, Claims}

-- ---- demand 3 of any engine

-- How a call is performed: its answer, and the tables that it leaves.
abbrev pub Engine : Type 0
Engine = State → Call → Answer × State

-- a list of calls: the answers, and the last tables
abbrev pub run_by : Engine → State → List Call → List Answer × State
run_by e s [] = ([], s)
run_by e s (c ∷ cs) = let x = e s c in let y = run_by e x.1 cs in (x.0 ∷ y.0, y.1)

-- Demand 3 with the engine e in the model's place.
abbrev pub Demand3Of : Engine → Type 0
Demand3Of e = (z : Sizes) (s : State) (cs : List Call) → make_tables z ≡ ok s → Each CallWords cs → Claims (note_all (blank z) cs (run_by e s cs).0) (run_by e s cs).1

-- ---- two wrong engines

-- The model's, but for what a carve leaves: by the domain, the range with its rights, and the tables before and after it.
abbrev behind_carve : (ℕ → Access → State → State → State) → State → Call → State → State
behind_carve f s (Call.Do (Step.Carve h l a)) t = f h.slot a s t
behind_carve f s (Call.Do (Step.Open m cores)) t = t
behind_carve f s (Call.Do (Step.Channel h to)) t = t
behind_carve f s (Call.Do (Step.SetCoreMap h cores)) t = t
behind_carve f s (Call.Do (Step.SetInterface h word)) t = t
behind_carve f s (Call.Do (Step.FreezeInterface h)) t = t
behind_carve f s (Call.Do (Step.Root h a)) t = t
behind_carve f s (Call.Do (Step.Alias h l a)) t = t
behind_carve f s (Call.Do (Step.Send h l target o)) t = t
behind_carve f s (Call.Do (Step.Revoke h l)) t = t
behind_carve f s (Call.Do (Step.CreateRevokeCapa h l)) t = t
behind_carve f s (Call.Make z) t = t
behind_carve f s Call.Pop t = t
behind_carve f s (Call.Read r) t = t

abbrev carving_by : (ℕ → Access → State → State → State) → Engine
carving_by f s c = let x = step s c in (x.0, behind_carve f s c x.1)

-- tables t, with domain d's tracker and the record pool as they were in s
abbrev tracker_of : ℕ → State → State → State
tracker_of d s t = with_record_pool s.record_pool (put_domain d (with_tracker (domain_at s d).tracker (domain_at t d)) t)

-- A carve edits the tree and leaves the tracker.
abbrev pub leaves_tracker : Engine
leaves_tracker = carving_by (λ d a s t. tracker_of d s t)

-- the tables of an accepted step
abbrev tables_or : State → Outcome State → State
tables_or s (ok t) = t
tables_or s (refuse r) = s

-- A carve's range is gained once more: a reach that no region gives.
abbrev pub invents_reach : Engine
invents_reach = carving_by (λ d a s t. tables_or t (activate [] d a t))
