-- The domains before d hold, and the work area is as it was.
use mathlib.Core.Path.{◌≡◌}
use Rattle.tables.specs.View.{view}
use Rattle.sound_rows.specs.Hold.{domain_holds}
use Rattle.sound_rows.specs.Passed.{Passed}
use Rattle.sound_rows.proofs.domains_hold.Given as goal

abbrev pub invariant-loop-d : goal.invariant-loop-d
invariant-loop-d l = (l.w ≡ l.initial.w) × Passed (domain_holds (view l.t)) l.n l.d
