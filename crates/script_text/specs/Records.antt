-- Records in order: the bytes read so far, the calls of the records that were run, and what was printed for them.
use Rattle.std.specs.Prelude.{◌≡◌, ◌≢◌, ℕ, suc, ◌<◌, Bool, false, length}
use mathlib.Core.List.{List, ◌++◌}
use Rattle.model.specs.State.{State}
use Rattle.model.specs.Perform.{Call, run}
use Rattle.model.specs.Memory.{Lent}
use Rattle.script_records.specs.Script.{script_calls}
use Rattle.running.specs.BetweenRecords.{followed}
use Rattle.input.specs.declared.Buffered.{Buffered}
use Rattle.input.specs.declared.Source.TheVariants as source
use Rattle.output.specs.declared.Pending.{Pending}
use Rattle.output.specs.Printed.{Printed}
use Rattle.script_text.specs.ScriptText.{call_lines, bad_line}

-- What all records left: `calls` are those of the bytes that were read, and `bad` says whether a bad record ended reading; else no more may come behind h.
-- Where a write failed, or after 2^64 − 2 calls, they are the first ones of these.
pub record RanAll (s₀ : State) (t w text : List ℕ) (p : Pending) (h : Buffered) : Type 0 where
  pub read : List ℕ
  pub calls : List Call
  pub bad : Bool
  pub later : List Call × Bool
  pub first : script_calls read ≡ followed calls later
  pub all : p.failed ≡ false → length calls < 18446744073709551614 → script_calls read ≡ (calls, bad)
  pub ended : p.failed ≡ false → length calls < 18446744073709551614 → bad ≡ false → h.source ≢ source.Open
  pub lent : Lent t w (run s₀ calls).1
  pub sizes : (run s₀ calls).1.sizes ≡ s₀.sizes
  pub printed : Printed (call_lines 1 (run s₀ calls).0 ++ bad_line (suc (length calls)) bad) text p
