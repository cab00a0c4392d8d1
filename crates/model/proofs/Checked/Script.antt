-- Document 01's worked example ("The script program"): the calls, and the lines that it shows.
use Rattle.std.specs.Prelude.{◌≡◌, refl, ℕ, suc, List, [], ◌∷◌, ◌++◌, map, get_or}
use Rattle.std.proofs.Math.Option.{Option, none, some}
use Rattle.refusals.specs.Refusals
use Rattle.model.specs.State.{Handle, Access, no_options, Domain, Update, permission, cleanup}
use Rattle.model.specs.Making.{empty_tables, script_sizes}
use Rattle.model.specs.Readings.{rights_of}
use Rattle.model.specs.Perform.{Step, Call, Answer, values, run}
use Rattle.model.proofs.Checked.Compute.{computing}

-- domain d's handle before any generation rose; a range with rights
abbrev pub dom : ℕ → Handle
dom d = record { slot = d; generation = 0 }

abbrev pub access : ℕ → ℕ → ℕ → Access
access s e r = record { start = s; end = e; rights = r }

-- ---- the lines

-- "number; ok with the new domain or local number (0 if none), or no with the refusal. d: domain, start, end, rights, reach .. p domain, cores;
-- c start, end."
data Line : Type 0 where
  ◌ok◌ : ℕ → ℕ → Line
  ◌no◌ : ℕ → ℕ → Line
  d : ℕ → ℕ → ℕ → ℕ → ℕ → Line
  p : ℕ → ℕ → Line
  c : ℕ → ℕ → Line

infix 20 ◌ok◌
infix 20 ◌no◌
-- call lines from number n on
abbrev call_lines : ℕ → List Answer → List Line
call_lines n [] = []
call_lines n (Answer.yes r ∷ l) = (n ok get_or (values r) 0 0) ∷ call_lines (suc n) l
call_lines n (Answer.no r ∷ l) = (n no Refusals.number r) ∷ call_lines (suc n) l

-- "one line for each permission record, domain slots rising"; i is the first domain's slot
abbrev domain_lines : ℕ → List (Option Domain) → List Line
domain_lines i [] = []
domain_lines i (none ∷ l) = domain_lines (suc i) l
domain_lines i (some x ∷ l) = map (λ q. d i q.start q.end (rights_of q.counts) q.counts.reach) x.tracker ++ domain_lines (suc i) l

-- "Then the queue, oldest first"
abbrev queue_line : Update → Line
queue_line (permission h cores marks) = p h.slot cores
queue_line (cleanup a b) = c a b

-- all lines that a list of calls gives
abbrev lines : List Call → List Line
lines cs = let y = run (empty_tables script_sizes) cs in call_lines 1 y.0 ++ domain_lines 0 y.1.domains ++ map queue_line y.1.queue.items

-- ---- the example

-- "open A; open B under A; root A 0 to 16 rights 3; carve local 1, 4 to 8 rights 1; alias local 1, 0 to 4 rights 3; send local 2 to local 0; alias
-- local 1, 6 to 9 rights 1."
abbrev pub example : List Call
example =
    Call.Do (Step.Open none 0)
    ∷ Call.Do (Step.Open (some (dom 0)) 0)
    ∷ Call.Do (Step.Root (dom 0) (access 0 16 3))
    ∷ Call.Do (Step.Carve (dom 0) 1 (access 4 8 1))
    ∷ Call.Do (Step.Alias (dom 0) 1 (access 0 4 3))
    ∷ Call.Do (Step.Send (dom 0) 2 0 no_options)
    ∷ Call.Do (Step.Alias (dom 0) 1 (access 6 9 1))
    ∷ []

example-lines : lines example
    ≡ (1 ok 0)
    ∷ (2 ok 1)
    ∷ (3 ok 1)
    ∷ (4 ok 2)
    ∷ (5 ok 3)
    ∷ (6 ok 0)
    ∷ (7 no 8)
    ∷ d 0 0 4 3 2
    ∷ d 0 8 16 3 1
    ∷ d 1 4 8 1 1
    ∷ p 0 0
    ∷ p 1 0
    ∷ []
unfolding computing
example-lines = refl
