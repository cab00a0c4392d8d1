-- One record at the front of the bytes at hand: the call that is run and its line, or the line of a bad record.
use Rattle.std.specs.Prelude.{◌≡◌, ℕ, List, Some, None, Ok, Err}
use Rattle.model.specs.Perform.{Answer}
use Rattle.model.specs.CallWords.{CallWords}
use Rattle.model.specs.Memory.{After}
use Rattle.script_records.specs.declared.Record.{Record}
use Rattle.script_records.specs.Parsed.{size_of, call_in, Found}
use Rattle.replies.specs.Replies.{reply_of}
use Rattle.output.specs.Text.{call_line, Puts}
use Rattle.script_text.specs.ScriptText.{bad_reply}

-- The record r is run as the k-th call: `answer` is its answer, and the line of that stands behind the n bytes of the run; `size` bytes are taken.
pub record Called (r : Record) (k n : ℕ) (t w run : List ℕ) (n' size : ℕ) (t' w' run' : List ℕ) : Type 0 where
  pub answer : Answer
  pub after : After t w (call_in r) answer t' w'
  pub words : CallWords (call_in r)
  pub line : Puts run n (call_line k (reply_of answer)) n' run'
  pub taken : size ≡ size_of r.kind

-- A bad record, or part of one: nothing is run and no byte taken, and the line of 17 stands behind the n bytes.
pub record Refused (k n : ℕ) (t w run : List ℕ) (n' size : ℕ) (t' w' run' : List ℕ) : Type 0 where
  pub tables : t' ≡ t
  pub work : w' ≡ w
  pub line : Puts run n (call_line k bad_reply) n' run'
  pub taken : size ≡ 0

abbrev pub Turns : Found → ℕ → ℕ → List ℕ → List ℕ → List ℕ → ℕ → ℕ → List ℕ → List ℕ → List ℕ → Type 0
Turns (Ok None) k n t w run n' size t' w' run' = Refused k n t w run n' size t' w' run'
Turns (Err e) k n t w run n' size t' w' run' = Refused k n t w run n' size t' w' run'
Turns (Ok (Some r)) k n t w run n' size t' w' run' = Called r k n t w run n' size t' w' run'
