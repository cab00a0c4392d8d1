-- The head's words and the slots'.
use mathlib.Core.Path.{refl}
use Rattle.sizes.proofs.domain_width.Goals as goal

pub returns : goal.returns
returns c = refl
