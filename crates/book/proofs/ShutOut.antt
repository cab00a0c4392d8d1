-- Of the model demand 3 holds; of the two engines of specs/ShutOut it does not, by one list of calls each.
use Rattle.std.specs.Prelude.{◌≡◌, refl, ℕ, List, [], ◌∷◌, map}
use Rattle.std.proofs.Math.Option.{none}
use Rattle.std.proofs.Common.{arith}
use Rattle.model.specs.Lists.{Each}
use Rattle.model.specs.Outcome.{ok}
use Rattle.model.specs.State.{State}
use Rattle.model.specs.Fields.{Field, fields, get}
use Rattle.model.specs.Counts.{stored_counts}
use Rattle.model.specs.Making.{make_tables, empty_tables}
use Rattle.model.specs.Perform.{Step, Call, step, run}
use Rattle.model.specs.CallWords.{CallWords}
use Rattle.model.proofs.Checked.Compute.{computing}
use Rattle.model.proofs.Checked.Script.{dom, access}
use Rattle.book.specs.Book.{blank}
use Rattle.book.specs.Demand3.{note_all, book_count}
use Rattle.book.proofs.Theorem.{demand3}
use Rattle.book.proofs.Example.{noting, sizes}
use Rattle.book.specs.ShutOut.{Engine, run_by, Demand3Of, leaves_tracker, invents_reach}

-- ---- a list of calls

-- A root 0 to 16 with READ and WRITE, a carve 4 to 8 of it with READ alone, an alias 4 to 6 of that, an alias 4 to 5 of that; then the alias is
-- revoked with the one below it.
abbrev calls : List Call
calls =
    Call.Do (Step.Open none 0)
    ∷ Call.Do (Step.Root (dom 0) (access 0 16 3))
    ∷ Call.Do (Step.Carve (dom 0) 0 (access 4 8 1))
    ∷ Call.Do (Step.Alias (dom 0) 1 (access 4 6 1))
    ∷ Call.Do (Step.Alias (dom 0) 2 (access 4 5 1))
    ∷ Call.Do (Step.Revoke (dom 0) 2)
    ∷ []

calls-words : Each CallWords calls
calls-words = omega arith

made : make_tables (sizes 1 4) ≡ ok (empty_tables (sizes 1 4))
unfolding computing
made = refl

-- ---- the counts at address 4, written out

-- reach, READ, WRITE, EXEC and SUPER of domain 0 after the calls, as stored and by the book
abbrev counts : Engine → List ℕ × List ℕ
counts e =
    let x = run_by e (empty_tables (sizes 1 4)) calls in
    (map (λ f. get f (stored_counts x.1 0 4)) fields, map (λ f. book_count (note_all (blank (sizes 1 4)) calls x.0) f 0 4) fields)

-- the engine whose counts they are
abbrev engine : Engine
engine s c = step s c

-- The carve alone counts: the root is carved at 4, and the aliases are dead.
both : counts engine ≡ (1 ∷ 1 ∷ 0 ∷ 0 ∷ 0 ∷ [], 1 ∷ 1 ∷ 0 ∷ 0 ∷ 0 ∷ [])
unfolding noting
both = refl

-- ---- what demand 3 says of the engines

same-run : (s : State) (cs : List Call) → run_by step s cs ≡ run s cs
unfolding run
same-run s [] = refl
same-run s (c ∷ cs) = rw (same-run (step s c).1 cs) refl

-- THEOREM: it holds for the model's
pub holds-of-model : Demand3Of step
holds-of-model z s cs e w = rw (same-run s cs) (demand3 z s cs e w)

-- THEOREM: it does not hold where a carve leaves the tracker: WRITE is stored at 4, and no region gives it
pub shuts-out-left-tracker : Demand3Of leaves_tracker → ⊥
unfolding noting
shuts-out-left-tracker h = let e : ◌≡◌ {A = ℕ} 1 0 = (h (sizes 1 4) (empty_tables (sizes 1 4)) calls made calls-words).counted Field.Write 0 4 in omega arith

-- THEOREM: nor where a reach is invented: 2 is stored at 4, and one region gives it
pub shuts-out-invented-reach : Demand3Of invents_reach → ⊥
unfolding noting
shuts-out-invented-reach h = let e : ◌≡◌ {A = ℕ} 2 1 = (h (sizes 1 4) (empty_tables (sizes 1 4)) calls made calls-words).counted Field.Reach 0 4 in omega arith
