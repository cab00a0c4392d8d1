-- Marks influence nothing else: from two states that are the same but for the marks of queued domains, any calls give the same answers but for a popped
-- update's marks, and lead to two such states. So a delivery without marks has the same calls but for the close (document 02,
-- request 5): it refused a revoke of a Management capability, which left its tables, so that its lists are those without such calls.
use Rattle.std.specs.Prelude.{◌≡◌, List, map}
use Rattle.std.proofs.Math.Option.{none, some}
use Rattle.model.specs.State.{State}
use Rattle.model.specs.Perform.{Value, Answer}
use Rattle.converted.specs.Marked.{mark_all, with_all_marks}

-- ---- what is claimed

-- equal but for the marks of queued domains
abbrev pub SameButMarks : State → State → Type 0
SameButMarks s t = with_all_marks s ≡ with_all_marks t

-- an answer whose update, if it is a popped one, has all marks
abbrev pub mark_value : Value → Value
mark_value Value.done = Value.done
mark_value (Value.domain h) = Value.domain h
mark_value (Value.local l) = Value.local l
mark_value (Value.popped none) = Value.popped none
mark_value (Value.popped (some u)) = Value.popped (some (mark_all u))
mark_value (Value.permission_list l) = Value.permission_list l
mark_value (Value.number n) = Value.number n
mark_value (Value.domain_list l) = Value.domain_list l

abbrev pub mark_answer : Answer → Answer
mark_answer (Answer.yes v) = Answer.yes (mark_value v)
mark_answer (Answer.no r) = Answer.no r

-- equal but for a popped update's marks
abbrev pub same_answer : Answer → Answer → Type 0
same_answer x y = mark_answer x ≡ mark_answer y

abbrev pub same_answers : List Answer → List Answer → Type 0
same_answers xs ys = map mark_answer xs ≡ map mark_answer ys
