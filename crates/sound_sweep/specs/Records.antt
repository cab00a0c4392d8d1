-- The records along a tracker's links, as the model has them.
use Rattle.std.specs.Prelude.{List, [], ◌∷◌, ℕ, zero, suc}
use Rattle.model.specs.State.{Record}
use Rattle.tables.specs.declared.Region.{Region}
use Rattle.sweep_neighbours.specs.Follows.{record_from}

-- from link k on, n at most; f gives the record in a slot
unfoldable pub chained : (ℕ → Region) → ℕ → ℕ → List Record
chained f zero k = []
chained f (suc n) zero = []
chained f (suc n) (suc i) = record_from i (f i) ∷ chained f n (f i).next
