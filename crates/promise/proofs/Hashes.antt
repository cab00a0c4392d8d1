-- A call's hash: 32 bytes are four words (`hash_in`), and any four words are 32 bytes. So the calls of `Called` with a hash are those that a host can make.
use Rattle.std.specs.Prelude.{◌≡◌, refl, ℕ, List, [], ◌∷◌, ◌++◌, length}
use Rattle.std.proofs.Math.Option.{some}
use Rattle.std.proofs.Common.{arith}
use Rattle.byte_numbers.specs.Numbers.{Bytes, eight_fits}
use Rattle.byte_numbers.specs.BytesOf.{bytes_of, number-bytes, bytes-then}
use Rattle.model.specs.State.{Hash, HashWords}
use Rattle.call.specs.Arguments.{hash_in}

pub hash-fits : (b : List ℕ) → Bytes b → HashWords (some (hash_in b))
hash-fits b h = (eight_fits b h 0, eight_fits b h 8, eight_fits b h 16, eight_fits b h 24)

-- the bytes of some words, and of a hash
abbrev bytes_in : List ℕ → List ℕ
bytes_in [] = []
bytes_in (x ∷ l) = bytes_of 8 x ++ bytes_in l

abbrev pub hash_bytes : Hash → List ℕ
hash_bytes x = bytes_in (x.word0 ∷ x.word1 ∷ x.word2 ∷ x.word3 ∷ [])

-- they are 32 bytes, and those of the hash
pub hash-length : (x : Hash) → length (hash_bytes x) ≡ 32
hash-length x = refl

each : (l : List ℕ) → Bytes (bytes_in l)
each [] = λ i. omega arith
each (x ∷ l) = bytes-then 8 x (bytes_in l) (each l)

pub hash-each : (x : Hash) → Bytes (hash_bytes x)
hash-each x = each (x.word0 ∷ x.word1 ∷ x.word2 ∷ x.word3 ∷ [])

pub hash-back : (x : Hash) → HashWords (some x) → hash_in (hash_bytes x) ≡ x
hash-back x h = λ i. record {
  word0 = number-bytes 8 x.word0 h.0 i;
  word1 = number-bytes 8 x.word1 h.1 i;
  word2 = number-bytes 8 x.word2 h.2 i;
  word3 = number-bytes 8 x.word3 h.3 i;
}
