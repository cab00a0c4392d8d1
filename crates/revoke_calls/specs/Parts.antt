-- The later steps of a call as one step, after the checks: what the code has a function for. Each call is its checks and then its part.
use Rattle.std.specs.Prelude.{◌≡◌, refl, ℕ, eqb}
use Rattle.base.specs.Cases.{pick}
use Rattle.tables.specs.declared.Handle.{Handle}
use Rattle.tables.specs.Kinds.{REGION_REVOKE, ROOT}
use Rattle.tables.specs.Tables.{Tables, region_at}
use Rattle.refusals.specs.Refusals.{is_root}
use Rattle.answers.specs.Answers.{Effect, refused, and_then}
use Rattle.domain.specs.Activate.{reserve, insert}
use Rattle.checks.specs.Checks.{live_domain, live_region, region_held, capa_of}
use Rattle.revoke_calls.specs.Calls.{revoke_unless_root, create_revoke_capa}

unfoldable pub revoked_held : Handle → Tables → Effect
revoked_held h s = and_then (live_region h s) revoke_unless_root

unfoldable pub revoker : ℕ → ℕ → Tables → Effect
revoker d i s = pick (eqb (region_at s i).kind ROOT) (refused is_root s) (and_then (reserve d s) (λ v s₁. insert d (capa_of REGION_REVOKE s₁.region_pool i) s₁))

pub revoker-is : (h : Handle) (l : ℕ) (s : Tables) → create_revoke_capa h l s ≡ and_then (live_domain h s) (λ d s₁. and_then (region_held d l s₁) (revoker d))
unfolding create_revoke_capa revoker
revoker-is h l s = refl
