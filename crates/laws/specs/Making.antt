-- How a making ends, by its tests.
use Rattle.std.specs.Prelude.{◌≡◌, ℕ, true, false, ◌&&◌, eqb}
use Rattle.std.proofs.Math.Path.{refl}
use Rattle.refusals.specs.Refusals.{memory, sizes}
use Rattle.model.specs.Outcome.{ok, refuse, ◌>>=◌, ◌>>◌, require}
use Rattle.model.specs.State.{Sizes}
use Rattle.model.specs.Making.{good_sizes, empty_tables, make_tables, make_in}
use Rattle.model.specs.Layout.{length_for}

module _ (n m : ℕ) (z : Sizes) where
  pub make-sizes : good_sizes z ≡ false → make_in n m z ≡ refuse sizes
  unfolding make_in make_tables require ◌>>◌ ◌>>=◌
  make-sizes g = rw g refl

  pub make-lengths : good_sizes z ≡ true → (eqb n (length_for z) && eqb m (length_for z)) ≡ false → make_in n m z ≡ refuse memory
  unfolding make_in make_tables require ◌>>◌ ◌>>=◌
  make-lengths g e = rw (g, e) refl

  pub make-made : good_sizes z ≡ true → (eqb n (length_for z) && eqb m (length_for z)) ≡ true → make_in n m z ≡ ok (empty_tables z)
  unfolding make_in make_tables require ◌>>◌ ◌>>=◌
  make-made g e = rw (g, e) refl
