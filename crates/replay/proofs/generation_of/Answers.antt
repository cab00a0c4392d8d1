-- The test answers what the reading requires.
use Rattle.std.proofs.Common.{sym, ◌∙◌}
use Rattle.tables.specs.Tests.{sized-true}
use Rattle.replay.proofs.generation_of.Goals as goal

pub generation-requires : goal.generation-requires
generation-requires c = sized-true _ (sym c.is_sized.ensures ∙ c.if-is_sized.true)
