-- The test answers what the run requires.
use Rattle.std.proofs.Common.{sym, ◌∙◌}
use Rattle.tables.specs.Tests.{sized-true}
use Rattle.replay.proofs.run_sized.Goals as goal

pub run-requires : goal.run-requires
run-requires g c = sized-true _ (sym c.is_sized.ensures ∙ c.if-is_sized.true)
