-- A hash without a flag word: the send does what it does without either (document 02, request 1).
use Rattle.std.specs.Prelude.{◌≡◌, refl, ℕ}
use Rattle.std.proofs.Math.Option.{Option, none}
use Rattle.model.specs.Outcome.{◌>>=◌}
use Rattle.model.specs.State.{Handle, Capa, no_capa, region, region_revoke, management, channel, Hash, SendOptions, SEND, no_options, State}
use Rattle.model.specs.Locals.{has_capacity, capa_at, insert_capa, remove_capa}
use Rattle.model.specs.Regions.{apply_options}
use Rattle.model.specs.Calls.{live_domain, caller_with, as_target, check_options, send_capa, send}
use Rattle.model.specs.Perform.{Step, Call, perform_step, perform}

-- a send's options with a hash alone
abbrev alone : Option Hash → SendOptions
alone x = record { flags = none; hash = x }

capa-alone : (c : Capa) (to : ℕ) (x : Option Hash) (s : State) → send_capa c to (alone x) s ≡ send_capa c to no_options s
unfolding send_capa check_options apply_options
capa-alone no_capa to x s = refl
capa-alone (region h) to x s = refl
capa-alone (region_revoke h) to x s = refl
capa-alone (management h) to x s = refl
capa-alone (channel h) to x s = refl

send-alone : (h : Handle) (l target : ℕ) (x : Option Hash) (s : State) → send h l target (alone x) s ≡ send h l target no_options s
unfolding send
send-alone h l target x s = λ j. (do
  d ← caller_with SEND s h
  t ← capa_at s d target
  k ← as_target t
  to ← live_domain s k
  s₁ ← has_capacity to s
  c ← capa_at s₁ d l
  s₂ ← capa-alone c to x s₁ j
  insert_capa to c (remove_capa d l s₂))

pub hash-alone : (s : State) (h : Handle) (l target : ℕ) (x : Option Hash) → perform s (Call.Do (Step.Send h l target (record { flags = none; hash = x }))) ≡ perform s (Call.Do (Step.Send h l target no_options))
unfolding perform perform_step
hash-alone s h l target x = rw (send-alone h l target x s)
