-- Regions revoked with all below them (document 01, **Revoke**; segment.rs), while the domains in `closing` are closing.
use Rattle.std.specs.Prelude.{ℕ, zero, suc, eqb}
use Rattle.base.specs.Cases.{pick}
use Rattle.tables.specs.Links.{slot_to}
use Rattle.tables.specs.Tables.{Tables, region_at}
use Rattle.refusals.specs.Refusals.{memory}
use Rattle.answers.specs.Answers.{Effect, refused, and_then}
use Rattle.leaf_revocation.specs.Leaf.{revoke_leaf}

-- head child by head child; n falls with each region above and each region freed (the model's revoke_region)
unfoldable pub revoke_region : ℕ → ℕ → ℕ → Tables → Effect
revoke_region closing zero i s = refused memory s
revoke_region closing (suc n) i s =
    let k = (region_at s i).child in
    pick (eqb k 0) (revoke_leaf closing i s) (and_then (revoke_region closing n (slot_to k) s) (λ v. revoke_region closing n i))

-- as many as there are live regions
unfoldable pub revoke : ℕ → ℕ → Tables → Effect
revoke closing i s = revoke_region closing s.region_pool.count i s
