-- The later steps of a call as one step, after the checks: what the code has a function for. Each call is its checks and then its part.
use Rattle.std.specs.Prelude.{◌≡◌, false, ℕ}
use Rattle.std.proofs.Math.Path.{refl}
use Rattle.base.specs.Cases.{pick}
use Rattle.tables.specs.declared.Handle.{Handle}
use Rattle.tables.specs.Kinds.{CARVE}
use Rattle.tables.specs.Interface as interface
use Rattle.tables.specs.Tables.{Tables, region_at}
use Rattle.refusals.specs.Refusals.{beyond}
use Rattle.answers.specs.Answers.{Effect, done, refused, and_then}
use Rattle.region.specs.declared.AccessRights.{AccessRights}
use Rattle.children.specs.Children.{check_child}
use Rattle.checks.specs.Checks.{caller_with, region_held, room_for_region}
use Rattle.region_calls.specs.Calls.{add_child}
use Rattle.carve_calls.specs.Calls.{exchange_rights, carve_region}

unfoldable pub carved : ℕ → ℕ → AccessRights → Tables → Effect
carved d p a s =
    pick (check_child false s p a)
    (and_then (add_child d p CARVE a s) (λ n s₁. and_then (exchange_rights d (region_at s p).rights a s₁) (λ v. done n))) (refused beyond s)

module _ (h : Handle) (l : ℕ) (a : AccessRights) (s : Tables) where
  pub carve-is : carve_region h l a s ≡ and_then (caller_with interface.CARVE h s) (λ d s₁. and_then (region_held d l s₁) (λ p s₂. and_then (room_for_region d a s₂) (λ u. carved d p a)))
  unfolding carve_region carved
  carve-is = refl
