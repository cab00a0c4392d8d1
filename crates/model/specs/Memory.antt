-- What a call does to lent tables and a lent work area, whatever they hold (document 01, "Memory and who can be refused"). Contracts cite this.
use Rattle.std.specs.Prelude.{◌≡◌, ℕ, List, length, replicate}
use Rattle.refusals.specs.declared.Refusal.{Refusal}
use Rattle.refusals.specs.Refusals.{memory}
use Rattle.model.specs.State.{Sizes, Handle, Access, State}
use Rattle.model.specs.Outcome.{Outcome, ok, refuse}
use Rattle.model.specs.Making.{make_in}
use Rattle.model.specs.Readings.{fill_run}
use Rattle.model.specs.Layout.{words}
use Rattle.model.specs.Perform.{Reading, Call, Value, Answer, step}
use Rattle.model.specs.Sound.{Sound}

-- The tables t are the words of the sound state s, and "The work area has the tables' length."
pub record Lent (t w : List ℕ) (s : State) : Type 0 where
  pub sound : Sound s
  pub tables : t ≡ words s
  pub work : length w ≡ length t

-- The work area after a call: all its places 0.
abbrev pub zeroed : List ℕ → List ℕ
zeroed w = replicate (length w) 0

-- What is answered to a making, and the tables that it leaves of t: on refusal t itself.
abbrev pub made_answer : Outcome State → Answer
made_answer (ok s) = Answer.yes Value.done
made_answer (refuse r) = Answer.no r

abbrev pub tables_left : List ℕ → Outcome State → List ℕ
tables_left t (ok s) = words s
tables_left t (refuse r) = t

-- The call is no making.
abbrev pub NotMake : Call → Type 0
NotMake (Call.Make z) = ⊥
NotMake (Call.Do c) = Unit {0}
NotMake Call.Pop = Unit {0}
NotMake (Call.Read r) = Unit {0}

-- `After t w c a t' w'`: the call c on tables t and work area w is answered a, and leaves t' and w'. Read each rule so: where what stands before its last
-- arrow holds, the call is answered and leaves what the `After` behind it names. There is one answer, one t' and one w' (`after-unique`, crate laws).
pub data After (t w : List ℕ) : Call → Answer → List ℕ → List ℕ → Type 0 where
  -- making, on memory with any contents: 2, then 1 by the lengths alone
  made : (z : Sizes) → After t w (Call.Make z) (made_answer (make_in (length t) (length w) z)) (tables_left t (make_in (length t) (length w) z)) (zeroed w)
  -- any other call: "1 Memory, either length wrong or tables not sound"
  not_sound : (c : Call) → NotMake c → ((s : State) → ¬ Lent t w s) → After t w c (Answer.no memory) t (zeroed w)
  -- on sound tables what the model says: on refusal the state, and so the tables, are as found
  performed : (c : Call) (s : State) → NotMake c → Lent t w s → After t w c (step s c).0 (words (step s c).1) (zeroed w)

-- A reading whose list is written into a lent run (**Reading**): accepted, the run holds the list's first elements, and the answer is the list's length ("the
-- whole number of records"); refused, the run is as found. `reply` is the form of Value that has the list.
pub data Filled {A : Type 0} (t w : List ℕ) (c : Call) (reply : List A → Value) (run : List A) : Answer → List ℕ → List ℕ → List A → Type 0 where
  filled : (l : List A) (t' w' : List ℕ) → After t w c (Answer.yes (reply l)) t' w' → Filled t w c reply run (Answer.yes (Value.number (length l))) t' w' (fill_run l run)
  untouched : (r : Refusal) (t' w' : List ℕ) → After t w c (Answer.no r) t' w' → Filled t w c reply run (Answer.no r) t' w' run

-- "The permission list is filled into a lent run of records"; "Holders fill a run of domain slots likewise".
abbrev pub AfterPermissions : List ℕ → List ℕ → Handle → List Access → Answer → List ℕ → List ℕ → List Access → Type 0
AfterPermissions t w h run = Filled t w (Call.Read (Reading.Permissions h)) Value.permission_list run

abbrev pub AfterHolders : List ℕ → List ℕ → ℕ → List ℕ → Answer → List ℕ → List ℕ → List ℕ → Type 0
AfterHolders t w a run = Filled t w (Call.Read (Reading.Holders a)) Value.domain_list run
