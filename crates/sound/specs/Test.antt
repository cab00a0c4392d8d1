-- The test of lent tables: that the words are as many as their sizes ask, and the tests of the groups, in the order in which they run.
use Rattle.std.specs.Prelude.{Bool, List, ℕ}
use Rattle.base.specs.Tests.{both}
use Rattle.tables.specs.Tables.{Tables}
use Rattle.tables.specs.View.{view}
use Rattle.sizes.specs.Tests.{sized_b}
use Rattle.sound_pools.specs.Hold.{record_pool_holds}
use Rattle.sound_outside.specs.Test.{outside_holds}
use Rattle.sound_queue.specs.Ring.{queue_holds}
use Rattle.sound_trackers.specs.Trackers.{trackers_hold}

-- what document 01, **Sound**, says of the pool of records, and of the trackers
abbrev pub tracked_holds : Tables → Bool
tracked_holds v = both (record_pool_holds v) (trackers_hold v)

abbrev pub groups_hold : Tables → Bool
groups_hold v = both (outside_holds v) (both (queue_holds v) (tracked_holds v))

unfoldable pub is_sound : List ℕ → Bool
is_sound t = both (sized_b t) (groups_hold (view t))
