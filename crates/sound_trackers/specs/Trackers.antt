-- The test of the trackers: the records of each domain in use are swept against the starts and the ends of its regions' pieces.
use Rattle.std.specs.Prelude.{Bool, true, List, ℕ, zero, suc, ◌/◌, take}
use Rattle.base.specs.Cases.{pick}
use Rattle.base.specs.Tests.{both}
use Rattle.model.specs.State.{Record}
use Rattle.sizes.specs.Sizes.{total}
use Rattle.tables.specs.Tables.{Tables, head_at, record_at}
use Rattle.arena.specs.Arena.{is_free_b}
use Rattle.sweep.specs.Events.{Piece, starts, ends}
use Rattle.sweep.specs.Sweep.{sweep}
use Rattle.sweep.specs.Sort.{sort}
use Rattle.sound_events.specs.Events.{gaps}
use Rattle.sound_sweep.specs.Records.{chained}
use Rattle.sound_pieces.specs.Pieces.{domain_pieces}

-- How many pieces there is room for: a quarter of the work area, which is as long as the tables. A piece takes two words where it starts and
-- two where it ends. In tables that are sound up to here no domain has more.
abbrev pub room : Tables → ℕ
room v = total v.sizes / 4

unfoldable pub kept : Tables → ℕ → List Piece
kept v d = take (room v) (domain_pieces v d)

-- domain d's tracker
unfoldable pub tracker : Tables → ℕ → List Record
tracker v d = chained (record_at v) v.sizes.records (head_at v d).tracker

-- domain d, if it is in use
unfoldable pub domain_holds : Tables → ℕ → Bool
domain_holds v d = pick (is_free_b v.domain_pool d) true (sweep (tracker v d) (sort gaps (starts (kept v d))) (sort gaps (ends (kept v d))))

-- n domains from d on
unfoldable pub all_hold : Tables → ℕ → ℕ → Bool
all_hold v zero d = true
all_hold v (suc n) d = both (domain_holds v d) (all_hold v n (suc d))

unfoldable pub trackers_hold : Tables → Bool
trackers_hold v = all_hold v v.sizes.domains 0
