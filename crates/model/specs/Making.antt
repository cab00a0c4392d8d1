-- "make empty tables of given sizes" (document 01, "Added by us", and "Tables: at most ..").
use Rattle.std.specs.Prelude.{ℕ, Bool, ◌&&◌, [], leb, eqb, replicate}
use Rattle.std.proofs.Math.Option.{none}
use Rattle.model.specs.Outcome.{Outcome, ok, ◌>>=◌, ◌>>◌, require}
use Rattle.refusals.specs.Refusals
use Rattle.model.specs.State.{Sizes, State}
use Rattle.model.specs.Pool.{fresh_pool}
use Rattle.model.specs.Layout.{length_for}

-- "each size at least 1", and at most its limit
abbrev pub up_to : ℕ → ℕ → Bool
up_to most n = leb 1 n && leb n most

-- "at most 32 domains, 128 slots each, 1,024 regions, 1,024 tracker records, 128 updates"
abbrev pub good_sizes : Sizes → Bool
good_sizes z = up_to 32 z.domains && up_to 128 z.slots && up_to 1024 z.regions && up_to 1024 z.records && up_to 128 z.updates

-- The script program's: "Tables: 8 domains, 16 slots, 128 regions, 128 records, 32 updates."
abbrev pub script_sizes : Sizes
script_sizes = record { domains = 8; slots = 16; regions = 128; records = 128; updates = 32 }

-- Empty tables: every slot free, nothing queued.
abbrev pub empty_tables : Sizes → State
empty_tables z =
    record {
      sizes = z;
      domain_pool = fresh_pool z.domains;
      region_pool = fresh_pool z.regions;
      record_pool = fresh_pool z.records;
      domains = replicate z.domains none;
      regions = replicate z.regions none;
      queue = record { read_place = 0; items = [] };
    }

-- 2 where a size is outside its limits
unfoldable pub make_tables : Sizes → Outcome State
make_tables z = do
  require (good_sizes z) Refusals.sizes  -- 2
  ok (empty_tables z)

-- Making in lent memory, by the lengths of tables and work area: "2 Sizes, one outside its limits (empty tables only, before 1, which there tests lengths
-- alone)". `length_for z` (Layout) is how many words tables of sizes z have.
unfoldable pub make_in : ℕ → ℕ → Sizes → Outcome State
make_in tables work z = do
  s ← make_tables z  -- 2
  require (eqb tables (length_for z) && eqb work (length_for z)) Refusals.memory  -- 1
  ok s
