-- The answer of the code as the record that is returned.
use Rattle.answers.specs.Answers.{Answer}
use Rattle.std.specs.Prelude.{Ok, Err}
use Rattle.refusals.specs.Refusals.{number}
use Rattle.replies.specs.declared.Reply.{Reply}

abbrev pub reply_for : Answer → Reply
reply_for (Ok v) = record { refusal = 0; value = v }
reply_for (Err r) = record { refusal = number r; value = 0 }
