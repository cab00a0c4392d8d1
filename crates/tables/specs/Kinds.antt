-- The kinds of a slot, a region and an update, as the code's constants name them (docs/TABLES.md).
use Rattle.std.specs.Prelude.{ℕ}

-- ---- of a slot

abbrev pub NONE : ℕ
NONE = 0

abbrev pub FREE : ℕ
FREE = 1

abbrev pub REGION : ℕ
REGION = 2

abbrev pub REGION_REVOKE : ℕ
REGION_REVOKE = 3

abbrev pub MANAGEMENT : ℕ
MANAGEMENT = 4

abbrev pub CHANNEL : ℕ
CHANNEL = 5

-- ---- of a region

abbrev pub ROOT : ℕ
ROOT = 1

abbrev pub ALIAS : ℕ
ALIAS = 2

abbrev pub CARVE : ℕ
CARVE = 3

-- ---- of an update

abbrev pub NOTHING : ℕ
NOTHING = 0

abbrev pub PERMISSION : ℕ
PERMISSION = 1

abbrev pub CLEANUP : ℕ
CLEANUP = 2
