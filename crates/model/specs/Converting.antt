-- The converter (document 02, request 2): "older tables carry over that way", from tables in separate memory. Its contract cites this. Former tables are those
-- from before request 4, which had no marks; no request since has changed a word.
use Rattle.std.specs.Prelude.{◌≡◌, ℕ, ◌+◌, ◌-◌, List, length, take}
use Rattle.refusals.specs.Refusals.{memory}
use Rattle.model.specs.Lists.{Each}
use Rattle.model.specs.State.{Sizes, Update, permission, cleanup, State}
use Rattle.model.specs.Fields.{all_marks}
use Rattle.model.specs.Layout.{words, length_for}
use Rattle.model.specs.Perform.{Value, Answer}
use Rattle.model.specs.Sound.{Sound}
use Rattle.model.specs.Memory.{zeroed}

-- Former tables had all sections but the last, the marks: their words of a state are the first of this delivery's. The sizes are the stored
-- ones, so that this delivery's own tables, U + 1 words longer, give 1.
abbrev pub former_length : Sizes → ℕ
former_length z = length_for z - (z.updates + 1)

abbrev pub former_words : State → List ℕ
former_words s = take (former_length s.sizes) (words s)

-- They kept no marks, so that any of the five counts may have moved: a queued domain has all five marks (request 4).
abbrev pub HasAllMarks : Update → Type 0
HasAllMarks (permission h cores marks) = marks ≡ all_marks
HasAllMarks (cleanup a b) = Unit {0}

abbrev pub AllMarked : State → Type 0
AllMarked s = Each HasAllMarks s.queue.items

-- o are the former tables of the sound state s, and the new tables t and both work areas v and w have the length of this delivery's:
-- the new words are built in v and tested with w before t is written.
pub record Convertible (o t v w : List ℕ) (s : State) : Type 0 where
  pub sound : Sound s
  pub marked : AllMarked s
  pub old : o ≡ former_words s
  pub tables : length t ≡ length_for s.sizes
  pub work : length v ≡ length_for s.sizes
  pub second_work : length w ≡ length_for s.sizes

-- `Converted o t v w a t' v' w'`: the converter answers a and leaves t', v' and w'. The old tables o are only read.
pub data Converted (o t v w : List ℕ) : Answer → List ℕ → List ℕ → List ℕ → Type 0 where
  -- "give 1 for wrong lengths or unsound old tables"
  not_convertible : ((s : State) → ¬ Convertible o t v w s) → Converted o t v w (Answer.no memory) t (zeroed v) (zeroed w)
  -- "and keep the rest": the old words and the new ones are of one state
  converted : (s : State) → Convertible o t v w s → Converted o t v w (Answer.yes Value.done) (words s) (zeroed v) (zeroed w)
