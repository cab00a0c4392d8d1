-- As it is computed.
use mathlib.Core.Path.{refl}
use Rattle.walk_cursors.proofs.going.Goals as goal

pub returns : goal.returns
returns c = refl
