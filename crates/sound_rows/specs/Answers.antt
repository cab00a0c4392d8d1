-- What the code goes by: how many slots a list has, and the work area as it was.
use Rattle.std.specs.Prelude.{◌≡◌, refl, ℕ, List, get_or}
use Rattle.std.proofs.Common.{sym, subst}
use Rattle.tables.specs.View.{view, of_parts}
use Rattle.sizes.specs.Sizes.{sizes_of}
use Rattle.sound_lists.specs.Marks.{Clean}

pub slots-seen : (t : List ℕ) → (view t).sizes.slots ≡ get_or t 1 0
unfolding view of_parts sizes_of
slots-seen t = refl

pub clean-same : (t w w' : List ℕ) → w' ≡ w → Clean t w → Clean t w'
clean-same t w w' e c = subst (Clean t) (sym e) c
