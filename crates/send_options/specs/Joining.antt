-- What a send says besides (document 02, request 1): with a flag word the flags join the rights of a region that was sent, "and the hash is stored, or
-- cleared when absent. Without one the stored hash stays."
use Rattle.std.specs.Prelude.{ℕ, ◌%◌}
use Rattle.rights.specs.Rights.{union}
use Rattle.rights.specs.declared.Rights.{Rights}
use Rattle.tables.specs.declared.RegionCapa.{RegionCapa}
use Rattle.tables.specs.declared.RegionHash.{RegionHash}
use Rattle.tables.specs.Tables.{Tables, no_hash, hash_given, region_at, with_region, with_hash}
use Rattle.send_options.specs.declared.SendOptions.{SendOptions}
use Rattle.send_options.specs.declared.SendOptions.TheVariants as options

abbrev pub with_rights : RegionCapa → ℕ → RegionCapa
with_rights r k = record { kind = r.kind; owner = r.owner; parent = r.parent; start = r.start; end = r.end; rights = k; child = r.child; next = r.next }

-- the flags join the rights of region i
unfoldable pub add_hcv : ℕ → Rights → Tables → Tables
add_hcv i f s = let g = region_at s i in with_region s i (with_rights g (union (g.rights % 256) f.0))

-- the flags join the rights of region i, and its hash becomes x
unfoldable pub with_options : ℕ → Rights → RegionHash → Tables → Tables
with_options i f x s = with_hash (add_hcv i f s) i x

-- region i as the options leave it (the model's apply_options)
unfoldable pub apply_options : ℕ → SendOptions → Tables → Tables
apply_options i options.None s = s
apply_options i (options.Flags f) s = with_options i f no_hash s
apply_options i (options.Hashed f h) s = with_options i f (hash_given h) s
