-- The checks of what a send says besides (document 02, request 1).
use Rattle.std.specs.Prelude.{Bool, true, false, Ok, Err}
use Rattle.base.specs.Cases.{pick}
use Rattle.tables.specs.Tables.{Tables}
use Rattle.rights.specs.Rights.{HASH, has, allowed}
use Rattle.rights.specs.declared.Rights.{Rights}
use Rattle.refusals.specs.Refusals.{bad_flag, no_hash}
use Rattle.answers.specs.Answers.{Answer, Effect}
use Rattle.send_options.specs.declared.SendOptions.{SendOptions}
use Rattle.send_options.specs.declared.SendOptions.TheVariants as options

-- 18: of the flags only those may join that a child may add to no rights at all (document 02, request 1); then 19, "HASH without a hash": HASH of the
-- flag word
unfoldable pub flags_answer : Rights → Bool → Answer
flags_answer f hashed =
    pick (allowed 0 f.0) (pick hashed (Ok 0) (pick (has f.0 HASH) (Err no_hash) (Ok 0))) (Err bad_flag)

unfoldable pub options_answer : SendOptions → Answer
options_answer options.None = Ok 0
options_answer (options.Flags f) = flags_answer f false
options_answer (options.Hashed f h) = flags_answer f true

abbrev pub check_options : SendOptions → Tables → Effect
check_options o s = record { answer = options_answer o; tables = s }
