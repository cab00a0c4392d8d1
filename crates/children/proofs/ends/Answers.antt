-- By the search.
use mathlib.Core.Path.{◌∙◌}
use Rattle.children.proofs.ends.Goals as goal

pub returns-in-After : goal.returns-in-After
returns-in-After c = rw c.in-After.is

pub returns-in-Link : goal.returns-in-Link
returns-in-Link c = rw c.in-Link.is

pub returns-in-Overlap : goal.returns-in-Overlap
returns-in-Overlap c = c.overlaps.ensures ∙ rw c.in-Overlap.is
