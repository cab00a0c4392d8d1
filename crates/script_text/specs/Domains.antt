-- Tables of a script in memory: whose words they are.
use Rattle.std.specs.Prelude.{◌≡◌, ℕ, List}
use Rattle.model.specs.State.{State}
use Rattle.model.specs.Making.{script_sizes}
use Rattle.model.specs.Layout.{words}
use Rattle.model.specs.Sound.{Sound}

-- The tables t are the words of the sound state s, which has the sizes of a script's tables.
pub record Holds (t : List ℕ) (s : State) : Type 0 where
  pub sound : Sound s
  pub sizes : s.sizes ≡ script_sizes
  pub tables : t ≡ words s
