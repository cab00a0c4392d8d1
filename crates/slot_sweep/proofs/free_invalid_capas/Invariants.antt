-- The slots from i on are left to sweep.
use Rattle.std.proofs.Common.{◌≡◌, ◌-◌}
use Rattle.sizes.specs.Limits.{most_slots}
use Rattle.tables.specs.View.{view}
use Rattle.slot_sweep.specs.Sweep.{is_invalid_b, sweep_from}
use Rattle.slot_sweep.proofs.free_invalid_capas.Given as goal

abbrev pub invariant-loop-i : goal.invariant-loop-i
invariant-loop-i l = record {
  size_kept : l.list.size ≡ l.initial.list.size;
  swept : sweep_from (is_invalid_b (view l.t)) (most_slots - l.i) l.i l.list ≡ sweep_from (is_invalid_b (view l.t)) most_slots 0 l.initial.list;
}
