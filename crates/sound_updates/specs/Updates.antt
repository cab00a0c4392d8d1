-- The clauses about one update of the ring (document 01, **Sound**): a queued domain is live, or was closed. A place where nothing is queued is all zero, and so are
-- marks beside anything but a queued domain.
use Rattle.std.specs.Prelude.{ℕ, Bool, true, eqb, ltb}
use Rattle.base.specs.Cases.{pick}
use Rattle.base.specs.Tests.{both}
use Rattle.tables.specs.declared.Update.{Update}
use Rattle.tables.specs.declared.Handle.{Handle}
use Rattle.tables.specs.Tables.{Tables}
use Rattle.tables.specs.Kinds.{NOTHING, PERMISSION, CLEANUP}
use Rattle.arena.specs.Arena.{live_b, older_b}

abbrev pub clear_b : Update → Bool
clear_b u = both (both (eqb u.kind NOTHING) (eqb u.a 0)) (both (eqb u.b 0) (eqb u.c 0))

-- a permission update, or a cleanup, which has two words
abbrev pub well_formed_b : Update → Bool
well_formed_b u = pick (eqb u.kind PERMISSION) true (both (eqb u.kind CLEANUP) (eqb u.c 0))

abbrev pub handle_at : Update → Handle
handle_at u = record { slot = u.a; generation = u.b }

-- "queued domains are live", or older than their slot's generation (document 02, request 5)
abbrev pub fits_in : Tables → Update → Bool
fits_in v u = pick (eqb u.kind PERMISSION) (pick (live_b v.domain_pool (handle_at u)) true (older_b v.domain_pool (handle_at u))) true

-- an update that is queued, or a place where none is
unfoldable pub update_fits : Tables → Update → Bool → Bool
update_fits v u queued = pick queued (both (well_formed_b u) (fits_in v u)) (clear_b u)

-- the marks beside an update: five bits beside a permission update, none elsewhere (document 02, request 4)
unfoldable pub marks_fit : Update → ℕ → Bool
marks_fit u m = pick (eqb u.kind PERMISSION) (ltb m 32) (eqb m 0)

-- both are permission updates of the same handle: slot and generation
unfoldable pub same_domain : Update → Update → Bool
same_domain u x = both (both (eqb u.kind PERMISSION) (eqb x.kind PERMISSION)) (both (eqb u.a x.a) (eqb u.b x.b))
