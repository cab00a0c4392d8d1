-- What a writer holds when bytes were handed to it, where it says what it holds (`contents`).
use Rattle.std.specs.Prelude.{◌≡◌, ℕ, Bool, not, true, false, List, ◌++◌, Option, take}
use Rattle.std.specs.Io.KnownBytes.{Appends, Keeps}
use Rattle.output.specs.declared.Pending.{Pending}

-- Of the bytes l the first went out, behind what the writer held; where `all` is true none is left.
pub record Sent (old : Option (List ℕ)) (l : List ℕ) (all : Bool) (new : Option (List ℕ)) : Type 0 where
  pub first : List ℕ
  pub rest : List ℕ
  pub parts : l ≡ first ++ rest
  pub behind : Appends old new first
  pub whole : all ≡ true → first ≡ l

-- The bytes pending, the first n of the run, went out once and in order; some are left only if a write failed. Behind a write that failed none went out.
pub record Hands (run : List ℕ) (p : Pending) (old : Option (List ℕ)) (r : Pending) (new : Option (List ℕ)) : Type 0 where
  pub sent : p.failed ≡ false → Sent old (take p.n run) (not r.failed) new
  pub none : p.failed ≡ true → Keeps old new
