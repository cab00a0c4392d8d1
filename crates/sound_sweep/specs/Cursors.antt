-- What both cursors say together: rounds for all events, and what a record leaves.
use Rattle.std.specs.Prelude.{◌≡◌, List, ℕ, ◌+◌, length}
use Rattle.sweep.specs.Sweep as sweep
use Rattle.sound_events.specs.Events.{events_in}
use Rattle.sweep_cursors.specs.Cursors.{At}
use Rattle.sound_sweep.specs.declared.Both.{Both}

-- enough rounds for all events
abbrev pub rounds : List ℕ → List ℕ → ℕ
rounds s e = length (events_in s) + length (events_in e)

-- what a record leaves is d
pub record Left (s e : List ℕ) (d : sweep.Both) (r : Both) : Type 0 where
  pub p : At s r.p d.p
  pub m : At e r.m d.m
  pub ok : r.ok ≡ d.ok
