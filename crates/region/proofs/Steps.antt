-- The steps on one record: what a callee's answer makes of its caller's.
use mathlib.Core.Path.{◌≡◌, refl}
use mathlib.Core.List.{List}
use Prim.Native.Nat.{ℕ}
use Rattle.tables.specs.View.{Left}
use Rattle.answers.specs.Answers.{Answer, Effect}
use Rattle.std.specs.Prelude.{Ok, Err}
use Rattle.refusals.specs.declared.Refusal.{Refusal}
use Rattle.walk_cursors.specs.declared.Cursor.{Cursor}
use Rattle.std.proofs.Common.{Continue, Break}
use Rattle.region.specs.Turns.{onward}

-- a step that is done goes onward with its value; one that is refused ends the walk
module _ (x : Effect) (f : ℕ → Cursor) (r : Answer) (u : List ℕ) (h : (r ≡ x.answer) × Left u x.tables) where
  pub onward-done : (v : ℕ) → r ≡ Ok v → (Continue (f v) ≡ (onward x f).answer) × Left u (onward x f).tables
  onward-done v e = rw (← h.0, e) (refl, h.1)

  pub onward-refused : (y : Refusal) → r ≡ Err y → (Break (Err y) ≡ (onward x f).answer) × Left u (onward x f).tables
  onward-refused y e = rw (← h.0, e) (refl, h.1)
