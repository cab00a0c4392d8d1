-- SetCoreMap: a core map, which is a word, is put back, with the tracker as it was.
use Rattle.std.proofs.Math.Path.{refl}
use Rattle.std.specs.Prelude.{ℕ}
use Rattle.model.specs.State.{State, Word, Handle}
use Rattle.model.specs.Calls.{set_core_map}
use Rattle.laws.specs.Accepted.{All, accepted, bind}
use Rattle.laws.specs.Keep.Checks.{domain-live}
use Rattle.laws.specs.Keep.Whole.{Whole, written-whole}

module _ (s : State) (whole : Whole s) (h : Handle) where
  pub set-core-map-keeps : (cores : ℕ) → Word cores → All Whole (set_core_map h cores s)
  unfolding set_core_map
  set-core-map-keeps cores w = bind (domain-live s h) (λ d (x, e). accepted (written-whole s whole d x e _ refl w))
