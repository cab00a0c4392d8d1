-- Roots and aliases on the tables, each call as the model has it, check by check.
use Rattle.std.specs.Prelude.{true, ℕ}
use Rattle.base.specs.Cases.{pick}
use Rattle.tables.specs.declared.Handle.{Handle}
use Rattle.tables.specs.Kinds.{REGION, ROOT, ALIAS}
use Rattle.tables.specs.Interface as interface
use Rattle.tables.specs.Tables.{Tables}
use Rattle.refusals.specs.Refusals.{beyond}
use Rattle.answers.specs.Answers.{Effect, done, refused, and_then}
use Rattle.region.specs.declared.AccessRights.{AccessRights}
use Rattle.tables.specs.Links.{link_to}
use Rattle.domain.specs.Activate.{insert, activate}
use Rattle.children.specs.Children.{insert_child, check_child}
use Rattle.segment.specs.Regions.{capa_for, new_region}
use Rattle.checks.specs.Checks.{live_domain, caller_with, region_held, room_for_region, capa_of}

-- region i in domain d's list
unfoldable pub held_region : ℕ → ℕ → Tables → Effect
held_region d i s = insert d (capa_of REGION s.region_pool i) s

unfoldable pub create_root_region : Handle → AccessRights → Tables → Effect
create_root_region h a s =
    and_then (live_domain h s) (λ d s₁.
    and_then (room_for_region d a s₁) (λ u s₂.
    and_then (new_region (capa_for d ROOT 0 a) s₂) (λ i s₃.
    and_then (held_region d i s₃) (λ l s₄.
    and_then (activate 0 d a s₄) (λ v. done l)))))

-- a child of region p, an alias or a carve by that kind
unfoldable pub add_child : ℕ → ℕ → ℕ → AccessRights → Tables → Effect
add_child d p kind a s = and_then (new_region (capa_for d kind (link_to p) a) s) (λ i s₁. held_region d i (insert_child s₁ p i))

unfoldable pub alias_region : Handle → ℕ → AccessRights → Tables → Effect
alias_region h l a s =
    and_then (caller_with interface.ALIAS h s) (λ d s₁.
    and_then (region_held d l s₁) (λ p s₂.
    and_then (room_for_region d a s₂) (λ u s₃.
    pick (check_child true s₃ p a) (and_then (add_child d p ALIAS a s₃) (λ n s₄. and_then (activate 0 d a s₄) (λ v. done n))) (refused beyond s₃))))
