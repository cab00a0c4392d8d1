-- The test of lent tables outside the trackers and the ring: the tests of its groups, in the order in which they run.
use Rattle.std.specs.Prelude.{Bool}
use Rattle.base.specs.Tests.{both}
use Rattle.tables.specs.Tables.{Tables}
use Rattle.sound_pools.specs.Hold.{outside_pools_hold}
use Rattle.sound_tree.specs.Tree.{tree_holds}
use Rattle.sound_hashes.specs.Hashes.{hashes_hold}
use Rattle.sound_interfaces.specs.Interfaces.{interfaces_hold}
use Rattle.sound_capas.specs.Capas.{capas_hold}

-- what document 01, **Sound**, says outside the trackers and the ring: of the pools of domains and regions and their lists, of regions, of their hashes
-- (document 02, request 1), of the domains' interfaces (request 2), of capabilities
abbrev pub outside_holds : Tables → Bool
outside_holds v = both (outside_pools_hold v) (both (tree_holds v) (both (hashes_hold v) (both (interfaces_hold v) (capas_hold v))))
