-- Sound is kept: every accepted call takes sound tables to sound tables, and so does every list of calls, refused ones included.
use Rattle.std.specs.Prelude.{List, [], ◌∷◌}
use Rattle.model.specs.Lists.{Each}
use Rattle.model.specs.State.{State}
use Rattle.model.specs.Outcome.{Outcome, ok, refuse}
use Rattle.model.specs.Perform.{Call, Value, perform, after, step, run}
use Rattle.model.specs.CallWords.{CallWords}
use Rattle.model.specs.Sound.{Sound}
use Rattle.laws.specs.Accepted.{All, accepted, weaken}
use Rattle.laws.specs.Capas.Perform.{perform-sound}
use Rattle.laws.specs.Keep.Agreement.{counts-agree-tracker}
use Rattle.laws.specs.Keep.Perform.{perform-keeps}

-- The capability clauses are kept by themselves (`Capas`); the others are part of what `Keep` shows.
pub sound-kept : (s : State) (c : Call) → Sound s → CallWords c → All (λ x. Sound x.1) (perform s c)
sound-kept s c h w = perform-sound s c h w (weaken (perform-keeps s h c w) (λ (a, t) (agree, base). record {
  regions = agree.regions;
  tracked = record { record_pool = agree.tracked.pool; trackers = counts-agree-tracker t agree.tracked };
}))

-- a refused call leaves the state
after-sound : (s : State) (m : Outcome (Value × State)) → Sound s → All (λ x. Sound x.1) m → Sound (after s m).1
after-sound s (ok x) h (accepted k) = k
after-sound s (refuse r) h k = h

pub step-sound : (s : State) (c : Call) → Sound s → CallWords c → Sound (step s c).1
unfolding step
step-sound s c h w = after-sound s (perform s c) h (sound-kept s c h w)

-- after any list of calls
pub run_sound : (s : State) (cs : List Call) → Sound s → Each CallWords cs → Sound (run s cs).1
unfolding run
run_sound s [] h w = h
run_sound s (c ∷ cs) h w = run_sound (step s c).1 cs (step-sound s c h w.0) w.1
