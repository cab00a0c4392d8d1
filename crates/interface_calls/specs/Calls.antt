-- A domain's interface set and frozen on the tables, each call as the model has it, check by check.
use Rattle.std.specs.Prelude.{ℕ, eqb}
use Rattle.base.specs.Cases.{pick}
use Rattle.tables.specs.declared.Handle.{Handle}
use Rattle.tables.specs.Tables.{Tables, interface_at, with_interface}
use Rattle.refusals.specs.Refusals.{is_frozen}
use Rattle.answers.specs.Answers.{Effect, done, refused, and_then}
use Rattle.checks.specs.Checks.{live_domain}

-- 21 where the word is frozen
unfoldable pub set_interface : Handle → ℕ → Tables → Effect
set_interface h word s =
    and_then (live_domain h s) (λ d s₁.
    pick (eqb (interface_at s₁ d).frozen 0) (done 0 (with_interface s₁ d (record { word = word; frozen = 0 }))) (refused is_frozen s₁))

unfoldable pub freeze_interface : Handle → Tables → Effect
freeze_interface h s = and_then (live_domain h s) (λ d s₁. done 0 (with_interface s₁ d (record { word = (interface_at s₁ d).word; frozen = 1 })))
