-- The words behind the links.
use Rattle.sections.specs.Pools.{generations-lent}
use mathlib.Core.Path.{◌∙◌}
use Rattle.sections.proofs.generations_of.Goals as goal

pub returns : goal.returns
returns c = c.run.ensures ∙ generations-lent _ _ _ c.requires c.span_of-s.ensures
