-- By whether there is a kind with this number.
use Rattle.std.proofs.Common.{sym, ◌∙◌}
use Rattle.script_records.proofs.Numbered.{size-some, size-none}
use Rattle.script_records.proofs.size_of.Goals as goal

pub returns-in-Some : goal.returns-in-Some
returns-in-Some c = c.size.ensures ∙ size-some _ _ (sym c.numbered.ensures ∙ c.in-Some.is)

pub returns-in-None : goal.returns-in-None
returns-in-None c = size-none _ (sym c.numbered.ensures ∙ c.in-None.is)
