-- A carve on the tables as the model has it, check by check.
use Rattle.std.specs.Prelude.{false, ℕ, eqb}
use Rattle.base.specs.Cases.{pick}
use Rattle.tables.specs.declared.Handle.{Handle}
use Rattle.tables.specs.Kinds.{CARVE}
use Rattle.tables.specs.Interface as interface
use Rattle.tables.specs.Tables.{Tables, region_at}
use Rattle.refusals.specs.Refusals.{beyond}
use Rattle.answers.specs.Answers.{Effect, done, refused, and_then}
use Rattle.region.specs.declared.AccessRights.{AccessRights}
use Rattle.domain.specs.Activate.{activate, deactivate}
use Rattle.children.specs.Children.{check_child}
use Rattle.segment.specs.Regions.{access}
use Rattle.checks.specs.Checks.{caller_with, region_held, room_for_region}
use Rattle.region_calls.specs.Calls.{add_child}

-- the range is lost with the parent's rights and gained with its own, where these differ
unfoldable pub exchange_rights : ℕ → ℕ → AccessRights → Tables → Effect
exchange_rights d old a s =
    pick (eqb old a.ops.0) (done 0 s) (and_then (deactivate 0 d (access a.start a.end old) s) (λ v. activate 0 d a))

unfoldable pub carve_region : Handle → ℕ → AccessRights → Tables → Effect
carve_region h l a s =
    and_then (caller_with interface.CARVE h s) (λ d s₁.
    and_then (region_held d l s₁) (λ p s₂.
    and_then (room_for_region d a s₂) (λ u s₃.
    pick (check_child false s₃ p a)
    (and_then (add_child d p CARVE a s₃) (λ n s₄. and_then (exchange_rights d (region_at s₃ p).rights a s₄) (λ v. done n))) (refused beyond s₃))))
