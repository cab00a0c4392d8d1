-- The later steps of a call as one step, after the checks: what the code has a function for. Each call is its checks and then its part.
use Rattle.std.specs.Prelude.{◌≡◌, true, ℕ}
use Rattle.std.proofs.Math.Path.{refl}
use Rattle.base.specs.Cases.{pick}
use Rattle.tables.specs.declared.Handle.{Handle}
use Rattle.tables.specs.Kinds.{ROOT, ALIAS}
use Rattle.tables.specs.Interface as interface
use Rattle.tables.specs.Tables.{Tables}
use Rattle.refusals.specs.Refusals.{beyond}
use Rattle.answers.specs.Answers.{Effect, done, refused, and_then}
use Rattle.region.specs.declared.AccessRights.{AccessRights}
use Rattle.domain.specs.Activate.{activate}
use Rattle.children.specs.Children.{check_child}
use Rattle.segment.specs.Regions.{capa_for, new_region}
use Rattle.checks.specs.Checks.{live_domain, caller_with, region_held, room_for_region}
use Rattle.region_calls.specs.Calls.{held_region, create_root_region, add_child, alias_region}

unfoldable pub rooted : ℕ → AccessRights → Tables → Effect
rooted d a s =
    and_then (new_region (capa_for d ROOT 0 a) s) (λ i s₁. and_then (held_region d i s₁) (λ l s₂. and_then (activate 0 d a s₂) (λ v. done l)))

unfoldable pub aliased : ℕ → ℕ → AccessRights → Tables → Effect
aliased d p a s =
    pick (check_child true s p a) (and_then (add_child d p ALIAS a s) (λ n s₁. and_then (activate 0 d a s₁) (λ v. done n))) (refused beyond s)

pub root_is : (h : Handle) (a : AccessRights) (s : Tables) → create_root_region h a s ≡ and_then (live_domain h s) (λ d s₁. and_then (room_for_region d a s₁) (λ u. rooted d a))
unfolding create_root_region rooted
root_is h a s = refl

module _ (h : Handle) (l : ℕ) (a : AccessRights) (s : Tables) where
  pub alias-is : alias_region h l a s ≡ and_then (caller_with interface.ALIAS h s) (λ d s₁. and_then (region_held d l s₁) (λ p s₂. and_then (room_for_region d a s₂) (λ u. aliased d p a)))
  unfolding alias_region aliased
  alias-is = refl
