-- A test of all members of a list.
use Rattle.std.specs.Prelude.{Bool, List, [], ◌∷◌, T}
use Rattle.std.specs.Float.Ieee.Fits.{and_i}
use Rattle.model.specs.Lists.{every}

-- a test that every member passes
pub every-all : {A : Type 0} (p : A → Bool) (l : List A) → ((x : A) → T (p x)) → T (every p l)
every-all p [] f = tt
every-all p (x ∷ l) f = and_i (p x) (every p l) (f x) (every-all p l f)
