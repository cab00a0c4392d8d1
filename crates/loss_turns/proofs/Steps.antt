-- A record that is lowered stays, or goes at reach 0.
use mathlib.Core.Path.{◌≡◌}
use mathlib.Core.List.{List}
use Prim.Native.Nat.{ℕ}
use borrow.Author.Tests.{eq-eqb, ne_eqb}
use Rattle.tables.specs.declared.Region.{Region}
use Rattle.tables.specs.Tables.{Tables, no_record, with_record}
use Rattle.tables.specs.View.{Left}
use Rattle.region.specs.declared.AccessRights.{AccessRights}
use Rattle.region.specs.Turns.{onward}
use Rattle.walk_cursors.specs.declared.Cursor.{Cursor}
use Rattle.std.proofs.Common.{Continue}
use Rattle.counts.specs.Counts.{lowered, crossings_of}
use Rattle.tables.specs.Links.{slot_to}
use Rattle.tracker_records.specs.Links.{with_next, freed_record}
use Rattle.walk_cursors.specs.Cursors.{next_of, dropped_of}
use Rattle.loss_turns.specs.Turns.{lower_turn}

module _ (s : Tables) (d : ℕ) (a : AccessRights) (c : Cursor) (q p : Region) (ep : p ≡ lowered a.ops.0 q) where
  pub lower-kept : (m : ℕ) (u : List ℕ) → (p.ref_count ≡ 0 → ⊥) → m ≡ crossings_of q p → Left u (with_record s (slot_to c.at) p)
      → (Continue (next_of c q.next c.start m) ≡ (lower_turn s d a c q).answer) × Left u (lower_turn s d a c q).tables
  unfolding lower_turn
  lower-kept m u n em l = rw (ne_eqb _ _ (rw ep at n)) (rw (em, ep), rw ep at l)

  pub lower-gone : p.ref_count ≡ 0 → lower_turn s d a c q ≡ onward (freed_record (with_next s d c.prev q.next) (slot_to c.at)) (λ v. dropped_of c q.next (crossings_of q no_record))
  unfolding lower_turn
  lower-gone e = rw (eq-eqb _ _ (rw ep at e))
