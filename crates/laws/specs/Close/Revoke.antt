-- One revoke inside a close: from sound tables it keeps them sound and only kills. What is left is as it was, child lists and trackers aside; the
-- domains have the lists, managers, core maps and interfaces they had; no generation falls.
use Rattle.std.specs.Prelude.{◌≡◌, refl, ℕ, List, eqb}
use Rattle.std.proofs.Common.{sym, ap, ◌∙◌}
use Rattle.std.proofs.Math.Option.{some, get_or}
use Rattle.model.specs.Lists.{one_if, at_slot, In}
use Rattle.model.specs.State.{State, Region, parent_of, none_region}
use Rattle.model.specs.Sound.{Sound}
use Rattle.model.specs.Regions.{revoke_region, live_count}
use Rattle.laws.specs.Accepted.{All, weaken, both}
use Rattle.laws.specs.Tree.Change.{same-bare}
use Rattle.laws.specs.Tree.Below.{Revoked}
use Rattle.laws.specs.Tree.Revoke.{revoke-all}
use Rattle.laws.specs.Tree.Generations.{GensAfter, revoke-gens}
use Rattle.laws.specs.Capas.Held.{owned_by, managed_by, capas-sound, sound-of}
use Rattle.laws.specs.Capas.Domain.{held-capas}
use Rattle.laws.specs.Capas.Walks.{same-lists-same}
use Rattle.laws.specs.Capas.RevokeLeaf.{HeldSameLists, leaf-held}
use Rattle.laws.specs.Keep.SameDomains.{SameDomains}
use Rattle.laws.specs.Keep.Agreement.{sound-agree, counts-agree-tracker}
use Rattle.laws.specs.Keep.Base.{sound-base}
use Rattle.laws.specs.Keep.RevokeRegion.{revoke-whole}

-- region i has gone from s with all below it, which leaves t
pub record Fell (s : State) (i : ℕ) (t : State) : Type 0 where
  pub sound : Sound t
  pub same_domains : SameDomains s t
  pub revoked : Revoked s.regions i t.regions
  pub generations : GensAfter s t

pub revoke-sound : (closing : List ℕ) (s : State) → Sound s → (i p : ℕ) (g : Region) → In s.regions i g → parent_of g.kind ≡ some p → All (Fell s i) (revoke_region closing (live_count s) i s)
revoke-sound closing s h i p g e n =
    let own = owned_by s in
    let man = managed_by s in
    let ok = h.outside.regions in
    weaken (both (revoke-whole closing s (sound-agree s h, sound-base s h) i p g e n) (both
    (revoke-all closing (HeldSameLists own man s) (leaf-held own man closing s) s i p g (capas-sound s h, same-lists-same s s refl refl) ok e n)
    (revoke-gens closing s (h.outside.region_pool.gens_length ∙ sym h.outside.regions_length) ok i p g e n))) (λ t ((((agree, base), same), v), (((held, lists), v₁), (gens, v₂))). record {
      sound = sound-of t
          (held-capas own s t lists.back (λ j r f k. ap (λ m. one_if (eqb m k)) (sym (same-bare (λ o. (get_or o none_region).owner) (λ q. refl) (at_slot t.regions j) (at_slot s.regions j) (v.left j r f)) ∙ ap (λ o. (get_or o none_region).owner) f)) held)
          (record { regions = agree.regions; tracked = record { record_pool = agree.tracked.pool; trackers = counts-agree-tracker t agree.tracked } });
      same_domains = same;
      revoked = v;
      generations = gens;
    })
