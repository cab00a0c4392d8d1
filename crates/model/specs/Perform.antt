-- All calls as one function, and what a list of calls does.
use Rattle.std.specs.Prelude.{ℕ, List, [], ◌∷◌, ◌++◌, length}
use Rattle.std.proofs.Math.Option.{Option}
use Rattle.model.specs.Outcome.{Outcome, ok, refuse, ◌>>=◌}
use Rattle.refusals.specs.declared.Refusal.{Refusal}
use Rattle.refusals.specs.Refusals
use Rattle.model.specs.State.{State, Sizes, Handle, Access, SendOptions, Update}
use Rattle.model.specs.Updates.{pop}
use Rattle.model.specs.Making.{make_in}
use Rattle.model.specs.Calls.{open_domain, open_channel, set_core_map, set_interface, freeze_interface, create_root_region, alias_region, carve_region, send, revoke, create_revoke_capa}
use Rattle.model.specs.Readings.{permissions, get_refcount, holders, core_map}
use Rattle.model.specs.Layout.{update_words, mark_words, length_for}

-- ---- calls and answers

-- The calls, with what the caller names. All numbers are plain; `CallWords` says which of them a program can give, and theorems about lists of calls ask it.

-- A step changes the tables, or is refused.
pub data Step : Type 0 where
  Open : Option Handle → ℕ → Step  -- manager or none, core map
  Channel : Handle → Handle → Step  -- in whose list, to whom
  SetCoreMap : Handle → ℕ → Step  -- domain, core map
  SetInterface : Handle → ℕ → Step  -- domain, word
  FreezeInterface : Handle → Step
  Root : Handle → Access → Step  -- domain, range with rights
  Alias : Handle → ℕ → Access → Step  -- caller, parent's local slot, range with rights
  Carve : Handle → ℕ → Access → Step  -- the same
  Send : Handle → ℕ → ℕ → SendOptions → Step  -- caller, slot sent, slot of a Management or Channel, flags and hash if given
  Revoke : Handle → ℕ → Step  -- caller, slot; of a Management: close
  CreateRevokeCapa : Handle → ℕ → Step  -- caller, slot of a region

-- A reading leaves the tables.
pub data Reading : Type 0 where
  Permissions : Handle → Reading
  Refcount : Handle → ℕ → ℕ → Reading  -- domain, from, to
  CoreMap : Handle → Reading
  Holders : ℕ → Reading  -- address

-- A call: making, a step, the pop of the oldest update, or a reading.
pub data Call : Type 0 where
  Make : Sizes → Call
  Do : Step → Call
  Pop : Call
  Read : Reading → Call

-- What an accepted call answers: nothing, the new domain, the local slot, the update popped, or what was read.
pub data Value : Type 0 where
  done : Value
  domain : Handle → Value
  local : ℕ → Value
  popped : Option Update → Value
  permission_list : List Access → Value
  number : ℕ → Value
  domain_list : List ℕ → Value

-- What a caller sees of a call.
pub data Answer : Type 0 where
  yes : Value → Answer
  no : Refusal → Answer

-- What an exported call returns (Replies.antt of crate replies) has document 01's number of the answer: the refusal's, or 0 for an accepted call.
abbrev pub code : Answer → ℕ
code (Answer.yes r) = 0
code (Answer.no r) = Refusals.number r

-- It has the values of an accepted call's answer, too. Of a list the "whole number of records"; of a pop 1, slot, generation, core map and marks of a domain
-- ("Pop answers them"), or 2, start, end, 0, 0 of a clean-up; of an empty ring five zeros.
abbrev pub values : Value → List ℕ
values done = []
values (domain h) = h.slot ∷ h.generation ∷ []
values (local l) = l ∷ []
values (popped u) = update_words u ++ mark_words u
values (permission_list l) = length l ∷ []
values (number n) = n ∷ []
values (domain_list l) = length l ∷ []

-- ---- one call

-- A call's outcome, with what it answers as a value.
abbrev answer : {A : Type 0} → (A → Value) → Outcome (A × State) → Outcome (Value × State)
answer f m = m >>= λ (a, s). ok (f a, s)

-- a call with no answer of its own
abbrev silent : Outcome State → Outcome (Value × State)
silent m = m >>= λ s. ok (done, s)

-- What a step does: the value and the new state, or the refusal.
unfoldable pub perform_step : State → Step → Outcome (Value × State)
perform_step s (Open m cores) = answer domain (open_domain m cores s)
perform_step s (Channel h to) = answer local (open_channel h to s)
perform_step s (SetCoreMap h cores) = silent (set_core_map h cores s)
perform_step s (SetInterface h word) = silent (set_interface h word s)
perform_step s (FreezeInterface h) = silent (freeze_interface h s)
perform_step s (Root h a) = answer local (create_root_region h a s)
perform_step s (Alias h l a) = answer local (alias_region h l a s)
perform_step s (Carve h l a) = answer local (carve_region h l a s)
perform_step s (Send h l target o) = answer local (send h l target o s)
perform_step s (Revoke h l) = silent (revoke h l s)
perform_step s (CreateRevokeCapa h l) = answer local (create_revoke_capa h l s)

-- What is read, or the refusal.
unfoldable pub read_tables : State → Reading → Outcome Value
read_tables s (Permissions h) = permissions h s >>= λ l. ok (permission_list l)
read_tables s (Refcount h from to) = get_refcount h from to s >>= λ n. ok (number n)
read_tables s (CoreMap h) = core_map h s >>= λ n. ok (number n)
read_tables s (Holders a) = ok (domain_list (holders a s))

-- What a call does: the value and the new state, or the refusal. A making is in the memory that holds s, so that after 2 it gives 1 unless the
-- new sizes need as many words; of a making in any lent memory: `After.made` (Memory). After a reading the state is as it was.
unfoldable pub perform : State → Call → Outcome (Value × State)
perform s (Make z) = let n = length_for s.sizes in silent (make_in n n z)
perform s (Do c) = perform_step s c
perform s Pop = answer popped (ok (pop s))
perform s (Read r) = read_tables s r >>= λ a. ok (a, s)

-- ---- a list of calls

-- "kept only on success": a refused call leaves the state as it was.
abbrev pub after : State → Outcome (Value × State) → Answer × State
after s (ok x) = (Answer.yes x.0, x.1)
after s (refuse r) = (Answer.no r, s)

-- one call of a list
unfoldable pub step : State → Call → Answer × State
step s c = after s (perform s c)

-- "each call gets the tables the last left": the answers, and the last state. Demand 3 (crate book) is about this.
unfoldable pub run : State → List Call → List Answer × State
run s [] = ([], s)
run s (c ∷ cs) = let x = step s c in let y = run x.1 cs in (x.0 ∷ y.0, y.1)
