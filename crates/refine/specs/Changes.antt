-- A state with one part changed has the tables with that part changed.
use Rattle.std.specs.Prelude.{◌≡◌}
use Rattle.std.proofs.Math.Path.{refl}
use Rattle.model.specs.State as state
use Rattle.model.specs.State.{State}
use Rattle.tables.specs.Tables.{with_record_pool}
use Rattle.decoded.specs.Tables.{pool_of, tables_of}

module _ (s : State) where
  pub record-pool-changed : (p : state.Pool) → tables_of (state.with_record_pool p s) ≡ with_record_pool (tables_of s) (pool_of s.sizes.records p)
  unfolding tables_of with_record_pool
  record-pool-changed p = refl
