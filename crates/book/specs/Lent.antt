-- Demand 3 of lent tables: what `After` leaves, call by call, is what the list of calls is about.
use Rattle.std.specs.Prelude.{◌≡◌, ℕ, List, [], ◌∷◌}
use Rattle.model.specs.Lists.{Each}
use Rattle.model.specs.State.{State, Sizes}
use Rattle.model.specs.Layout.{words}
use Rattle.model.specs.Perform.{Call, Value, Answer}
use Rattle.model.specs.CallWords.{CallWords}
use Rattle.model.specs.Sound.{Sound}
use Rattle.model.specs.Memory.{After}
use Rattle.book.specs.Book.{Book, blank}
use Rattle.book.specs.Demand3.{note_all, Claims}
use Rattle.book.specs.Matches.{Matches}

-- "each call gets the tables the last left, and nothing else writes them": the calls, their answers, and the tables before and after.
-- Each call may get another work area.
pub data Chain : List ℕ → List Call → List Answer → List ℕ → Type 0 where
  start : {t : List ℕ} → Chain t [] [] t
  next : {t w t₁ w₁ t₂ : List ℕ} {c : Call} {y : Answer} {cs : List Call} {ys : List Answer} → After t w c y t₁ w₁ → Chain t₁ cs ys t₂ → Chain t (c ∷ cs) (y ∷ ys) t₂

-- The tables are the words of sound tables of which all claims hold.
pub record ClaimsOf (b : Book) (t : List ℕ) : Type 0 where
  pub state : State
  pub tables : t ≡ words state
  pub sound : Sound state
  pub claims : Claims b state

-- Demand 3, from an accepted making in lent memory.
abbrev pub Demand3Lent : Type 0
Demand3Lent = (t w t₁ w₁ t₂ : List ℕ) (z : Sizes) (cs : List Call) (ys : List Answer) → After t w (Call.Make z) (Answer.yes Value.done) t₁ w₁ → Each CallWords cs → Chain t₁ cs ys t₂ → ClaimsOf (note_all (blank z) cs ys) t₂

-- ---- book and lent tables match

-- The tables are the words of sound tables that the book matches. Whatever writes tables, a converter say, has to show only that it keeps this.
pub record BookOf (b : Book) (t : List ℕ) : Type 0 where
  pub state : State
  pub tables : t ≡ words state
  pub sound : Sound state
  pub matches : Matches b state
