-- A state where every queued domain has all five marks (document 02, request 4): what the converter makes of former tables, which have no marks.
-- All else of the state is as it was, so that it is sound and matches the book as the state does.
use Rattle.std.specs.Prelude.{map}
use Rattle.model.specs.State.{Update, permission, cleanup, State, with_queue}
use Rattle.model.specs.Fields.{all_marks}

abbrev pub mark_all : Update → Update
mark_all (permission h cores marks) = permission h cores all_marks
mark_all (cleanup a b) = cleanup a b

abbrev pub with_all_marks : State → State
with_all_marks s = with_queue (record { read_place = s.queue.read_place; items = map mark_all s.queue.items }) s
