-- The words behind the head and the count.
use Rattle.sections.specs.Pools.{links-lent}
use mathlib.Core.Path.{◌∙◌}
use Rattle.sections.proofs.links_of.Goals as goal

pub returns : goal.returns
returns c = c.run.ensures ∙ links-lent _ _ _ c.requires c.span_of-s.ensures
