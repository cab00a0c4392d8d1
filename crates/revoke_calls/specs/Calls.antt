-- Capabilities revoked, and a capability to revoke, on the tables: each call as the model has it, check by check.
use Rattle.std.specs.Prelude.{ℕ, eqb}
use Rattle.base.specs.Cases.{pick}
use Rattle.tables.specs.declared.Handle.{Handle}
use Rattle.tables.specs.declared.Slot.{Slot}
use Rattle.tables.specs.Kinds.{FREE, REGION, REGION_REVOKE, MANAGEMENT, ROOT}
use Rattle.tables.specs.Tables.{Tables, region_at}
use Rattle.arena.specs.Arena.{live_b}
use Rattle.refusals.specs.Refusals.{no_slot, is_root}
use Rattle.answers.specs.Answers.{Effect, done, refused, and_then}
use Rattle.slots.specs.Capas.{capa_at, with_empty}
use Rattle.domain.specs.Activate.{reserve, insert}
use Rattle.revocation.specs.Revoke.{revoke}
use Rattle.close_calls.specs.Calls.{close_managed}
use Rattle.checks.specs.Checks.{live_domain, live_region, region_held, capa_of}

-- 9
unfoldable pub revoke_unless_root : ℕ → Tables → Effect
revoke_unless_root i s = pick (eqb (region_at s i).kind ROOT) (refused is_root s) (revoke 0 i s)

-- 4, 3, 22, 23, 6, 9; a RegionRevoke of a dead region succeeds
unfoldable pub revoke_capa : Slot → Tables → Effect
revoke_capa x s =
    pick (eqb x.kind FREE) (refused no_slot s)
    (pick (eqb x.kind MANAGEMENT) (close_managed x.handle s)
    (pick (eqb x.kind REGION) (and_then (live_region x.handle s) revoke_unless_root)
    (pick (eqb x.kind REGION_REVOKE) (pick (live_b s.region_pool x.handle) (revoke_unless_root x.handle.slot s) (done 0 s)) (done 0 s))))

unfoldable pub revoke_local : Handle → ℕ → Tables → Effect
revoke_local h l s = and_then (live_domain h s) (λ d s₁. and_then (revoke_capa (capa_at s₁ d l) s₁) (λ v s₂. done 0 (with_empty s₂ d l)))

unfoldable pub create_revoke_capa : Handle → ℕ → Tables → Effect
create_revoke_capa h l s =
    and_then (live_domain h s) (λ d s₁.
    and_then (region_held d l s₁) (λ i s₂.
    pick (eqb (region_at s₂ i).kind ROOT) (refused is_root s₂) (and_then (reserve d s₂) (λ v s₃. insert d (capa_of REGION_REVOKE s₃.region_pool i) s₃))))
