-- Carve: the child joins its parent's list, and the range goes from the parent's rights to the child's.
use Rattle.std.specs.Prelude.{◌≡◌, refl, ℕ, ◌<◌, List, T, length}
use Rattle.std.proofs.Math.Option.{Option}
use Rattle.model.specs.Lists.{is_some, at_slot, In}
use Rattle.model.specs.State.{State, Domain, Region, Carve, Access, Handle, region_at}
use Rattle.model.specs.Tree.{check_carve}
use Rattle.model.specs.Calls.{add_child, carve_region}
use Rattle.model.specs.Sound.{PoolSound, slot_uses, Sound}
use Rattle.laws.specs.Accepted.{All, bind, accepted, both, checked}
use Rattle.laws.specs.Tree.Slots.{is_live_lem, live-is}
use Rattle.laws.specs.Tree.Tallies.{Exchanges}
use Rattle.laws.specs.Tree.Laws.{carve-law}
use Rattle.laws.specs.Tree.Steps.{region-at}
use Rattle.laws.specs.Keep.Agreement.{TrackersAgreeWith, TrackersAgree}
use Rattle.laws.specs.Keep.Activate.{CountsIncludeRange, exchange-agree}
use Rattle.laws.specs.Keep.Locals.{made}
use Rattle.laws.specs.Keep.SameDomains.{SameOutside}
use Rattle.laws.specs.Keep.Base.{Base}
use Rattle.laws.specs.Keep.BaseSteps.{child-base, exchange-base}
use Rattle.laws.specs.Keep.Whole.{After}
use Rattle.laws.specs.Keep.Child.{child-agree, with-parent}

module _ (s : State) (agree : TrackersAgree s) (size : length s.regions ≡ s.sizes.regions) (pool : PoolSound s.sizes.regions (slot_uses s.regions) s.region_pool) (d : ℕ) (x : Domain) (at : In s.domains d x) (a : Access) where
  module _ (p : ℕ) (h : Region) (e : In s.regions p h) (z : a.start < a.end) where
    -- and the range can be lost with the parent's rights
    abbrev Carved : List (Option Region) → Type 0
    Carved rs = Exchanges s.regions rs (made d (Carve p) a) h × CountsIncludeRange s.regions h.owner a.start a.end h.rights

    pub carve-agree : T (check_carve s h a) → All (λ (y : ℕ × State). TrackersAgreeWith s.regions y.1 × Carved y.1.regions × T (is_some (at_slot y.1.domains d))) (add_child d p (Carve p) a s)
    carve-agree t = child-agree s agree size pool d x at a p h e (Carve p) Carved (λ i l free. let r = carve-law s agree.regions i (made d (Carve p) a) l free refl p h e z tt refl t in (r.0, (r.1, r.2)))

module _ (s : State) (sound : Sound s) (h : Handle) (a : Access) where
  -- the range that the domain loses is its own, since the parent is
  pub carve-keeps : (l : ℕ) → All After (carve_region h l a s)
  unfolding carve_region
  carve-keeps l = with-parent s sound h a _ l _ (λ d p t k.
      let r = k.room in
      let own = k.own in
      let e = region-at t p k.parent k.at in
      checked (check_carve t (region_at t p) a) _ (λ c.
      bind (both (carve-agree t r.agree r.base.regions.size r.base.regions.pool d r.domain r.at a p k.parent k.at r.nonempty (rw e at c)) (child-base t d (r.base, is_live_lem _ _ r.at) p (is_live_lem _ _ k.at) (Carve p) a)) (λ (n, t₁) ((b, (exchanges, counts-include), live), k₁).
      let y = live-is _ live in
      bind {P = λ u. (TrackersAgree u × SameOutside t₁ u) × Base u} (both {P = λ u. TrackersAgree u × SameOutside t₁ u} (rw e (exchange-agree t.regions t₁ b d y.0 y.1 a r.nonempty k.parent.rights (λ v u w. rw own at (counts-include v u w)) (λ f j v. rw own at (exchanges f j v)))) (exchange-base t₁ d k₁ _ a)) (λ t₂ (z, k₂). accepted (z.0, k₂)))))
