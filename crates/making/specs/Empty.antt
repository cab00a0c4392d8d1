-- Empty tables of given sizes.
use Rattle.std.specs.Prelude.{◌≡◌, List, ℕ, ◌+◌, replicate}
use Rattle.sizes.specs.declared.Sizes.{Sizes}
use Rattle.tables.specs.Tables.{Tables, empty_domain, no_region, no_record, no_update, no_hash, no_interface}
use Rattle.tables.specs.View.{view, Sized}
use Rattle.sizes.specs.Sizes.{sizes_of}
use Rattle.arena.specs.Arena.{new_arena}

unfoldable pub empty : Sizes → Tables
empty z =
    record {
      sizes = z;
      read = 0;
      write = 0;
      domain_pool = new_arena z.domains;
      region_pool = new_arena z.regions;
      record_pool = new_arena z.records;
      domains = replicate z.domains (empty_domain z);
      regions = replicate z.regions no_region;
      records = replicate z.records no_record;
      ring = replicate (z.updates + 1) no_update;
      hashes = replicate z.regions no_hash;
      interfaces = replicate z.domains no_interface;
      marks = replicate (z.updates + 1) 0;
    }

-- sized words of empty tables but for the pools
pub record Blank (z : Sizes) (t : List ℕ) : Type 0 where
  pub sized : Sized t
  pub sizes : sizes_of t ≡ z
  pub read : (view t).read ≡ 0
  pub write : (view t).write ≡ 0
  pub domains : (view t).domains ≡ replicate z.domains (empty_domain z)
  pub regions : (view t).regions ≡ replicate z.regions no_region
  pub records : (view t).records ≡ replicate z.records no_record
  pub ring : (view t).ring ≡ replicate (z.updates + 1) no_update
  pub hashes : (view t).hashes ≡ replicate z.regions no_hash
  pub interfaces : (view t).interfaces ≡ replicate z.domains no_interface
  pub marks : (view t).marks ≡ replicate (z.updates + 1) 0
