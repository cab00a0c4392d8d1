-- What the script program prints (document 01, "The script program"): every byte, from the bytes that it reads.
use Rattle.std.specs.Prelude.{◌≡◌, ◌≢◌, ℕ, suc, ◌<◌, Bool, true, false, List, [], ◌∷◌, ◌++◌, length}
use Rattle.std.proofs.Math.Option.{some}
use Rattle.refusals.specs.Refusals.{number, bad_record}
use Rattle.model.specs.State.{Update}
use Rattle.model.specs.Making.{empty_tables, script_sizes}
use Rattle.model.specs.Perform.{Call, Value, Answer, run}
use Rattle.replies.specs.declared.Reply.{Reply}
use Rattle.replies.specs.Replies.{reply_of, update_reply_of}
use Rattle.script_records.specs.Script.{script_calls}
use Rattle.listing.specs.Lines.{domain_lines}
use Rattle.input.specs.declared.Buffered.{Buffered}
use Rattle.input.specs.declared.Source.TheVariants as source
use Rattle.output.specs.declared.Pending.{Pending}
use Rattle.output.specs.Text.{call_line, domain_line, queue_line}
use Rattle.output.specs.Printed.{Printed}

-- "Call lines": of answers, the first one to call k.
unfoldable pub call_lines : ℕ → List Answer → List ℕ
call_lines k [] = []
call_lines k (a ∷ l) = call_line k (reply_of a) ++ call_lines (suc k) l

-- "gives 17, printed as that call's line"
abbrev pub bad_reply : Reply
bad_reply = record { refusal = number bad_record; value = 0 }

-- Where a bad record "ends reading", its line, with the number k.
unfoldable pub bad_line : ℕ → Bool → List ℕ
bad_line k true = call_line k bad_reply
bad_line k false = []

-- "d: domain, start, end, rights, reach, one line for each permission record"
unfoldable pub domain_text : List (List ℕ) → List ℕ
domain_text [] = []
domain_text (x ∷ l) = domain_line x ++ domain_text l

-- "Then the queue, oldest first": each update as a pop answers it.
unfoldable pub queue_text : List Update → List ℕ
queue_text [] = []
queue_text (u ∷ l) = queue_line (update_reply_of (Answer.yes (Value.popped (some u)))) ++ queue_text l

-- The calls' lines, a bad record's, and "the lists still follow": of the state that the calls leave.
unfoldable pub text_of : List Call × Bool → List ℕ
text_of (cs, bad) =
    let x = run (empty_tables script_sizes) cs in
    call_lines 1 x.0 ++ bad_line (suc (length cs)) bad ++ domain_text (domain_lines x.1) ++ queue_text x.1.queue.items

-- The output of a script.
unfoldable pub script_text : List ℕ → List ℕ
script_text b = text_of (script_calls b)

-- What a run of the program printed, p what of it is pending in `text`: the output for the calls `calls`. They are those of the bytes `read` that it read,
-- up to a bad record or to where no more may come behind them, h; where a write failed, or after 2^64 − 2 calls, the first of them.
pub record Output (text : List ℕ) (p : Pending) (h : Buffered) : Type 0 where
  pub read : List ℕ
  pub calls : List Call
  pub bad : Bool
  pub later : List Call
  pub first : (script_calls read).0 ≡ calls ++ later
  pub all : p.failed ≡ false → length calls < 18446744073709551614 → script_calls read ≡ (calls, bad)
  pub ended : p.failed ≡ false → length calls < 18446744073709551614 → bad ≡ false → h.source ≢ source.Open
  pub printed : Printed (text_of (calls, bad)) text p
