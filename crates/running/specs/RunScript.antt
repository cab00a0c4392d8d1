-- What running a script in lent memory promises: what the model's list of the calls that the script's bytes name leaves, and demand 3 of it (document 01,
-- "Contracts and checked cases").
use Rattle.std.specs.Prelude.{◌≡◌, ℕ, Bool, List, length, if◌then◌else◌}
use Rattle.refusals.specs.Refusals.{number, memory, bad_record}
use Rattle.model.specs.Making.{empty_tables, script_sizes}
use Rattle.model.specs.State.{Sizes}
use Rattle.model.specs.Layout.{words, length_for}
use Rattle.model.specs.Perform.{Call, Answer, run}
use Rattle.model.specs.Memory.{zeroed}
use Rattle.book.specs.Book.{blank}
use Rattle.book.specs.Demand3.{note_all}
use Rattle.book.specs.Lent.{Chain, ClaimsOf}
use Rattle.promise.specs.Reached.{Reached}
use Rattle.script_records.specs.Script.{script_calls}
use Rattle.replies.specs.declared.Reply.{Reply}

-- The tables are what an accepted making of a script's tables and then some calls of the exported functions left; so `everything` speaks of them.
abbrev pub ScriptTables : List ℕ → Type 0
ScriptTables t = Reached script_sizes t

-- The reply to a script: 17 where a bad record "ends reading", else 0, and the number of calls that were run.
abbrev pub script_reply : List Call × Bool → Reply
script_reply (cs, bad) = record { refusal = if bad then number bad_record else 0; value = length cs }

-- What the calls cs leave in the tables t.
pub record Ended (cs : List Call) (t : List ℕ) : Type 0 where
  -- an answer for each call
  pub answers : List Answer
  -- "The list starts at an accepted making .. each call gets the tables the last left, and nothing else writes them": the first call got empty tables
  -- of the script's sizes, and the last one left t
  pub chain : Chain (words (empty_tables script_sizes)) cs answers t
  -- word for word what the model's list of these calls leaves
  pub tables : t ≡ words (run (empty_tables script_sizes) cs).1
  -- Demand 3: t holds sound tables. In them the reach stored for a domain at an address is the number of that domain's live regions that cover the
  -- address and are not carved there, in the book of these calls and answers; each stored count of a right is the number of those that hold it; reach
  -- summed over all domains is the accepted roots there with the accepted aliases not since revoked; no right is counted where no accepted root had
  -- it; and the stored live regions are the book's, one for one.
  pub claims : ClaimsOf (note_all (blank script_sizes) cs answers) t

-- Both lengths are right for these sizes.
pub record Fit (t w : List ℕ) (z : Sizes) : Type 0 where
  pub tables : length t ≡ length_for z
  pub work : length w ≡ length_for z

-- The script b run in tables t and a work area w: the reply x, and what is left in both.
pub record RanScript (b t w : List ℕ) (x : Reply) (t' w' : List ℕ) : Type 0 where
  -- "1 Memory, either length wrong": nothing is run, and the tables are as found
  pub unfit : ¬ Fit t w script_sizes → (x ≡ record { refusal = number memory; value = 0 }) × (t' ≡ t)
  -- both lengths are right: all calls of the script are run, up to its end or to the first bad record, whatever t held before
  pub reply : Fit t w script_sizes → x ≡ script_reply (script_calls b)
  pub ended : Fit t w script_sizes → Ended (script_calls b).0 t'
  -- the work area is all zero
  pub clear : w' ≡ zeroed w
