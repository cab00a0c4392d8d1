-- A script between two records: the calls so far and those of the bytes behind them are the script's calls.
use Rattle.std.specs.Prelude.{◌≡◌, ℕ, ◌≤◌, Bool, List, ◌++◌, length, drop}
use Rattle.model.specs.Lists.{Each}
use Rattle.model.specs.Perform.{Call, Answer, run}
use Rattle.model.specs.CallWords.{CallWords}
use Rattle.model.specs.State.{State}
use Rattle.model.specs.Memory.{Lent, zeroed}
use Rattle.book.specs.Lent.{Chain}
use Rattle.script_records.specs.Script.{script_calls}
use Rattle.replies.specs.declared.Reply.{Reply}
use Rattle.running.specs.RunScript.{script_reply}

-- The calls cs, then those of r.
abbrev pub followed : List Call → List Call × Bool → List Call × Bool
followed cs r = (cs ++ r.0, r.1)

-- n calls, those of the first `at` bytes of b, led from t₀ and w₀ to t and w: from the words of a sound state to those that the model's list leaves.
pub record BetweenRecords (b t₀ w₀ : List ℕ) (n at : ℕ) (t w : List ℕ) : Type 0 where
  pub calls : List Call
  pub answers : List Answer
  pub chain : Chain t₀ calls answers t
  pub led : (s : State) → Lent t₀ w₀ s → Lent t w (run s calls).1
  pub words : Each CallWords calls
  pub rest : script_calls b ≡ followed calls (script_calls (drop at b))
  pub count : n ≡ length calls
  pub few : n ≤ at
  pub inside : at ≤ length b
  pub work : w₀ ≡ zeroed w₀ → w ≡ zeroed w₀

-- All calls of b are run, as the model runs them.
pub record RunsAll (b t₀ w₀ : List ℕ) (x : Reply) (t w : List ℕ) : Type 0 where
  pub answers : List Answer
  pub chain : Chain t₀ (script_calls b).0 answers t
  pub led : (s : State) → Lent t₀ w₀ s → Lent t w (run s (script_calls b).0).1
  pub words : Each CallWords (script_calls b).0
  pub reply : x ≡ script_reply (script_calls b)
  pub work : w₀ ≡ zeroed w₀ → w ≡ zeroed w₀
