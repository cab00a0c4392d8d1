-- Alias: the child joins its parent's list, and its domain gains the range once more.
use Rattle.std.specs.Prelude.{◌≡◌, refl, ℕ, ◌<◌, T, length}
use mathlib.Core.List.{[]}
use Rattle.model.specs.Lists.{is_some, at_slot, In}
use Rattle.model.specs.State.{State, Domain, Region, Alias, Access, Handle, region_at}
use Rattle.model.specs.Tree.{check_alias}
use Rattle.model.specs.Calls.{add_child, alias_region}
use Rattle.model.specs.Sound.{PoolSound, slot_uses, Sound}
use Rattle.laws.specs.Accepted.{All, bind, accepted, both, checked}
use Rattle.laws.specs.Tree.Slots.{is_live_lem, live-is}
use Rattle.laws.specs.Tree.Tallies.{Gains}
use Rattle.laws.specs.Tree.Laws.{alias-law}
use Rattle.laws.specs.Tree.Steps.{region-at}
use Rattle.laws.specs.Keep.Agreement.{TrackersAgreeWith, TrackersAgree}
use Rattle.laws.specs.Keep.Activate.{activate-agree}
use Rattle.laws.specs.Keep.Locals.{made}
use Rattle.laws.specs.Keep.BaseSteps.{child-base, gained-base}
use Rattle.laws.specs.Keep.Whole.{After}
use Rattle.laws.specs.Keep.Child.{child-agree, with-parent}

module _ (s : State) (agree : TrackersAgree s) (size : length s.regions ≡ s.sizes.regions) (pool : PoolSound s.sizes.regions (slot_uses s.regions) s.region_pool) (d : ℕ) (x : Domain) (at : In s.domains d x) (a : Access) where
  module _ (p : ℕ) (h : Region) (e : In s.regions p h) (z : a.start < a.end) where
    pub alias-agree : T (check_alias s h a) → All (λ (y : ℕ × State). TrackersAgreeWith s.regions y.1 × Gains s.regions y.1.regions (made d (Alias p) a) × T (is_some (at_slot y.1.domains d))) (add_child d p (Alias p) a s)
    alias-agree t = child-agree s agree size pool d x at a p h e (Alias p) (λ rs. Gains s.regions rs (made d (Alias p) a)) (λ i l free. alias-law s agree.regions i (made d (Alias p) a) l free refl p h e z tt refl t)

module _ (s : State) (sound : Sound s) (h : Handle) (a : Access) where
  pub alias-keeps : (l : ℕ) → All After (alias_region h l a s)
  unfolding alias_region
  alias-keeps l = with-parent s sound h a _ l _ (λ d p t k.
      let r = k.room in
      let e = region-at t p k.parent k.at in
      checked (check_alias t (region_at t p) a) _ (λ c.
      bind (both (alias-agree t r.agree r.base.regions.size r.base.regions.pool d r.domain r.at a p k.parent k.at r.nonempty (rw e at c)) (child-base t d (r.base, is_live_lem _ _ r.at) p (is_live_lem _ _ k.at) (Alias p) a)) (λ (n, t₁) ((b, gains, live), k₁).
      let y = live-is _ live in
      bind (both (activate-agree t.regions t₁ b d y.0 y.1 a r.nonempty gains) (gained-base [] t₁ d k₁ a)) (λ t₂ (z, k₂). accepted (z.0, k₂.0)))))
