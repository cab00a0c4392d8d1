-- By what parsing found; a parsed record is one that `run` takes.
use Rattle.std.proofs.Common.{Ok, sym, ap, ◌∙◌}
use Rattle.naming.specs.Given.{parsed-given}
use Rattle.running.specs.Takes.{left-short, left-bad, record-runs}
use Rattle.running.proofs.scripts.take.Goals as goal

pub run-requires : goal.run-requires
run-requires c = parsed-given _ _ (sym c.parse.ensures ∙ c.in-Ok-Some.is ∙ ap Ok c.in-Ok-Some.field-0-is)

pub returns-in-Ok-Some : goal.returns-in-Ok-Some
returns-in-Ok-Some c = record-runs _ _ c.parse.ensures _ _ c.in-Ok-Some.r (c.in-Ok-Some.is ∙ ap Ok c.in-Ok-Some.field-0-is) _ _ _ c.run.ensures _ c.size.ensures

pub returns-in-Ok-None : goal.returns-in-Ok-None
returns-in-Ok-None c = left-short _ _ c.parse.ensures _ _ (c.in-Ok-None.is ∙ ap Ok c.in-Ok-None.field-0-is)

pub returns-in-Err : goal.returns-in-Err
returns-in-Err c = left-bad _ _ c.parse.ensures _ _ c.in-Err.is
