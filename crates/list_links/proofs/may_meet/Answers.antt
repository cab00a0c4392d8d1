-- The slot as the walk reads it.
use mathlib.Core.Path.{ap}
use Rattle.list_links.specs.declared.Step.{Step}
use Rattle.list_links.specs.Reads.{step_is}
use Rattle.tables.specs.View.{view}
use Rattle.list_links.proofs.may_meet.Goals as goal

pub returns : goal.returns
returns c = ap (λ (x : Step). x.may) (step_is (view c.args.t.now) c.args.s _ _ _ c.args.i _ c.words_of-p.ensures c.rows_of-records.ensures c.slots_of.ensures c.step_at.ensures)
