-- What holds of every field: the counts that are made field by field, and the tests of all fields.
use Rattle.std.specs.Prelude.{◌≡◌, refl, ℕ, ◌+◌, ◌-◌, Bool, T}
use Rattle.std.specs.Float.Ieee.Fits.{and_l, and_r}
use Rattle.model.specs.Lists.{every}
use Rattle.model.specs.State.{Counts}
use Rattle.model.specs.Fields.{Field, fields, get, counter, each}
use Rattle.model.specs.Tracker.{new_counts, raise, lower, no_counts}

-- ---- counts made field by field

get-each : (f : Field) (n : Field → ℕ) (u : ℕ) → get f (each n u) ≡ n f
get-each Field.Reach n u = refl
get-each Field.Read n u = refl
get-each Field.Write n u = refl
get-each Field.Exec n u = refl
get-each Field.Super n u = refl

-- no counts, those of a new record, and after a gain and a loss
module _ (f : Field) where
  pub get_none : get f no_counts ≡ 0
  get_none = get-each f (λ g. 0) 0

  pub get-new : (r : ℕ) → get f (new_counts r) ≡ counter f r
  get-new r = get-each f (λ g. counter g r) _

  pub get-raise : (r : ℕ) (k : Counts) → get f (raise r k) ≡ get f k + counter f r
  get-raise r k = get-each f (λ g. get g k + counter g r) _

  pub get-lower : (r : ℕ) (k : Counts) → get f (lower r k) ≡ get f k - counter f r
  get-lower r k = get-each f (λ g. get g k - counter g r) _

-- ---- a test of all fields

pub every-field : (p : Field → Bool) → T (every p fields) → (f : Field) → T (p f)
every-field p t Field.Reach = search and_l
every-field p t Field.Read = search (and_l, and_r)
every-field p t Field.Write = search (and_l, and_r)
every-field p t Field.Exec = search (and_l, and_r)
every-field p t Field.Super = search (and_l, and_r)
