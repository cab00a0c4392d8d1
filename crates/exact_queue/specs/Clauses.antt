-- The clauses of `WellFormed` and `Sound` about the ring, which the test settles, and what is known before.
use Rattle.std.specs.Prelude.{ℕ, ◌+◌, ◌<◌}
use Rattle.model.specs.State.{Word}
use Rattle.model.specs.Sound.{QueueSound}
use Rattle.tables.specs.Tables.{Tables}
use Rattle.decoded.specs.Decode.Read.{state_of}
use Rattle.decoded.specs.Canonical.WellFormed.{QueueWellFormed, place}

-- what is stored are words
pub record Stored (v : Tables) : Type 0 where
  pub first : (k : ℕ) → k < v.sizes.updates + 1 → Word (place v k).a
  pub second : (k : ℕ) → k < v.sizes.updates + 1 → Word (place v k).b
  pub third : (k : ℕ) → k < v.sizes.updates + 1 → Word (place v k).c

pub record QueueClauses (v : Tables) : Type 0 where
  pub queue : QueueSound v.sizes.updates (state_of v).domain_pool (state_of v).domains (state_of v).queue
  pub well_formed : QueueWellFormed v
