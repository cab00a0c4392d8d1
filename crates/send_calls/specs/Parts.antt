-- The later steps of a call as one step, after the checks: what the code has a function for. Each call is its checks and then its part.
use Rattle.std.specs.Prelude.{◌≡◌, refl, ℕ}
use Rattle.tables.specs.declared.Handle.{Handle}
use Rattle.tables.specs.Interface.{SEND}
use Rattle.tables.specs.Tables.{Tables}
use Rattle.answers.specs.Answers.{Effect, and_then}
use Rattle.slots.specs.Capas.{capa_at, without_capa}
use Rattle.domain.specs.Activate.{reserve, insert}
use Rattle.send_options.specs.declared.SendOptions.{SendOptions}
use Rattle.checks.specs.Checks.{caller_with, target_held}
use Rattle.send_calls.specs.Calls.{send_capa, send}

unfoldable pub passed : ℕ → ℕ → ℕ → SendOptions → Tables → Effect
passed d l to o s = and_then (send_capa (capa_at s d l) to o s) (λ v s₁. insert to (capa_at s d l) (without_capa s₁ d l))

pub send-is : (h : Handle) (l target : ℕ) (o : SendOptions) (s : Tables)
    → send h l target o s ≡ and_then (caller_with SEND h s) (λ d s₁. and_then (target_held d target s₁) (λ to s₂. and_then (reserve to s₂) (λ u. passed d l to o)))
unfolding send passed
send-is h l target o s = refl
