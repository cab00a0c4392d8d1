-- "demand 3's list goes on through them" (document 02, request 2): from a making before request 4 on, through calls, the converter and any calls since,
-- all claims hold of the tables by one book. The converter leaves the book as it is.
use Rattle.std.specs.Prelude.{◌≡◌, ℕ, List}
use Rattle.model.specs.Lists.{Each}
use Rattle.model.specs.Outcome.{ok}
use Rattle.model.specs.State.{State, Sizes}
use Rattle.model.specs.Making.{make_tables}
use Rattle.model.specs.Perform.{Call, Value, Answer, run}
use Rattle.model.specs.CallWords.{CallWords}
use Rattle.model.specs.Sound.{Sound}
use Rattle.model.specs.Converting.{former_words, Converted}
use Rattle.book.specs.Book.{Book, blank}
use Rattle.book.specs.Demand3.{note_all}
use Rattle.book.specs.Matches.{Matches}
use Rattle.book.specs.Lent.{Chain, ClaimsOf}

-- ---- what is claimed

-- s is made and changed by calls; the former tables of it are all its words but the marks; these words become t₁ by the converter; then calls lead from t₁
-- to t₂. `run-marks-alone` says why the first calls are those of a delivery without marks: marks influence nothing else. It closed no domain: what it
-- refused for that, and left its tables, is not in cs₀.
abbrev pub Demand3Converted : Type 0
Demand3Converted = (z : Sizes) (s : State) (cs₀ cs : List Call) (ys : List Answer) (o t v w t₁ v₁ w₁ t₂ : List ℕ)
    → make_tables z ≡ ok s → Each CallWords cs₀ → o ≡ former_words (run s cs₀).1
    → Converted o t v w (Answer.yes Value.done) t₁ v₁ w₁ → Each CallWords cs → Chain t₁ cs ys t₂
    → ClaimsOf (note_all (note_all (blank z) cs₀ (run s cs₀).0) cs ys) t₂

-- o are the former words of sound tables that the book matches. A chain of converters has to show only that each keeps this.
pub record FormerBookOf (b : Book) (o : List ℕ) : Type 0 where
  pub state : State
  pub sound : Sound state
  pub old : o ≡ former_words state
  pub matches : Matches b state
