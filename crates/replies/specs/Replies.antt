-- What the exported calls promise: the model's `After` (crate model, Memory) of the lent memory, and the answer as the record that is returned.
-- Document 01, "Memory and who can be refused": "A refusal gives its number and nothing else."
use Rattle.std.specs.Prelude.{◌≡◌, ℕ, List, [], map, get_or}
use Rattle.model.specs.State.{Handle, Access}
use Rattle.model.specs.Perform.{Call, Answer, code, values}
use Rattle.model.specs.Converting.{Converted}
use Rattle.model.specs.Memory.{After, AfterPermissions, AfterHolders}
use Rattle.readings.specs.declared.Permission.{Permission}
use Rattle.replies.specs.declared.Reply.{Reply}
use Rattle.replies.specs.declared.DomainReply.{DomainReply}
use Rattle.replies.specs.declared.UpdateReply.{UpdateReply}

-- ---- an answer as a record

-- the i-th value of an answer, 0 where there is none
abbrev pub value_of : Answer → ℕ → ℕ
value_of (Answer.yes r) i = get_or (values r) i 0
value_of (Answer.no r) i = 0

-- the refusal's number, 0 where the call was accepted; and the values
abbrev pub reply_of : Answer → Reply
reply_of a = record { refusal = code a; value = value_of a 0 }

abbrev pub domain_reply_of : Answer → DomainReply
domain_reply_of a = record { refusal = code a; slot = value_of a 0; generation = value_of a 1 }

abbrev pub update_reply_of : Answer → UpdateReply
update_reply_of a = record { refusal = code a; kind = value_of a 0; a = value_of a 1; b = value_of a 2; c = value_of a 3; marks = value_of a 4 }

-- ---- contracts

-- The call c on tables t and work area w returns r, which f makes of its answer, and leaves t' and w'.
pub record Returns {R : Type 0} (f : Answer → R) (t w : List ℕ) (c : Call) (r : R) (t' w' : List ℕ) : Type 0 where
  pub answer : Answer
  pub after : After t w c answer t' w'
  pub reply : r ≡ f answer

-- a record of a lent run, as the model has it
abbrev pub access_of : Permission → Access
access_of p = record { start = p.start; end = p.end; rights = p.rights }

-- The permission list of domain h into a lent run: the tables stay, and the run becomes run'.
pub record ListsPermissions (t w : List ℕ) (h : Handle) (run : List Permission) (r : Reply) (w' : List ℕ) (run' : List Permission) : Type 0 where
  pub answer : Answer
  pub after : AfterPermissions t w h (map access_of run) answer t w' (map access_of run')
  pub reply : r ≡ reply_of answer

-- The holders of address a likewise.
pub record ListsHolders (t w : List ℕ) (a : ℕ) (run : List ℕ) (r : Reply) (w' run' : List ℕ) : Type 0 where
  pub answer : Answer
  pub after : AfterHolders t w a run answer t w' run'
  pub reply : r ≡ reply_of answer

-- The converter: from the old tables o, the new tables t and the work areas v and w it returns r, and leaves t', v' and w'.
pub record Converts (o t v w : List ℕ) (r : Reply) (t' v' w' : List ℕ) : Type 0 where
  pub answer : Answer
  pub converts : Converted o t v w answer t' v' w'
  pub reply : r ≡ reply_of answer
