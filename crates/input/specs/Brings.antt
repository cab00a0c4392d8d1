-- The bytes at hand are the reader's, in its order, where it says what it has left (`remaining`).
use Rattle.std.specs.Prelude.{◌≡◌, ℕ, ◌-◌, List, ◌++◌, Option, take, drop}
use Rattle.std.specs.Io.KnownBytes.{Consumes, IsAtEnd}
use Rattle.input.specs.declared.Buffered.{Buffered}
use Rattle.input.specs.declared.Source.TheVariants as source

-- the bytes at hand h in b
abbrev pub at_hand : Buffered → List ℕ → List ℕ
at_hand h b = take (h.end - h.at) (drop h.at b)

-- From the bytes at hand h in b on, the next ones that the reader had came behind them.
pub record Brings (old : Option (List ℕ)) (h : Buffered) (b : List ℕ) (new : Option (List ℕ)) (r : Buffered) (b' : List ℕ) : Type 0 where
  pub more : List ℕ
  pub behind : at_hand r b' ≡ at_hand h b ++ more
  pub taken : Consumes old new more

-- Where the input has ended, the reader has nothing left.
abbrev pub Ended : Buffered → Option (List ℕ) → Type 0
Ended h known = h.source ≡ source.Ended → IsAtEnd known
