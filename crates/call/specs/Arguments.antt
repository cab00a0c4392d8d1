-- What is named in a call, by the plain numbers and bytes that an exported function takes.
use Rattle.std.specs.Prelude.{ℕ, List, take, drop}
use Rattle.std.proofs.Math.Option.{none, some}
use Rattle.byte_numbers.specs.Numbers.{number}
use Rattle.model.specs.State.{Sizes, Handle, Access, Hash, SendOptions}

abbrev pub handle : ℕ → ℕ → Handle
handle slot generation = record { slot = slot; generation = generation }

abbrev pub access : ℕ → ℕ → ℕ → Access
access start end rights = record { start = start; end = end; rights = rights }

abbrev pub sizes : ℕ → ℕ → ℕ → ℕ → ℕ → Sizes
sizes domains slots regions records updates = record { domains = domains; slots = slots; regions = regions; records = records; updates = updates }

-- a hash of 32 bytes: four words of eight bytes, the lowest byte first (document 02, request 1)
abbrev pub hash_in : List ℕ → Hash
hash_in b = record { word0 = number (take 8 (drop 0 b)); word1 = number (take 8 (drop 8 b)); word2 = number (take 8 (drop 16 b)); word3 = number (take 8 (drop 24 b)) }

-- a send's options (document 02, request 1): a flag word without a hash, or with one
abbrev pub with_flags : ℕ → SendOptions
with_flags flags = record { flags = some flags; hash = none }

abbrev pub with_hash : ℕ → Hash → SendOptions
with_hash flags hash = record { flags = some flags; hash = some hash }
