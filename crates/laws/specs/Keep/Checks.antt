-- What the checks of the calls say where they pass: the domain is live, the region in the named slot is live and the domain's own, there is room
-- for a region, and the range is not empty.
use Rattle.std.specs.Prelude.{◌≡◌, refl, ℕ, zero, suc, ◌<◌, Bool, List, [], ◌∷◌, T, eqb, ltb, get_or}
use Rattle.std.proofs.Math.Path.{ap}
use Rattle.std.proofs.Common.{◌∙◌, arith, ltb→lt, eq-eqb}
use Rattle.std.proofs.Math.Option.{Option, none, some}
use Rattle.std.specs.Float.Ieee.Fits.{and_l, and_r}
use Rattle.std.proofs.Math.Seq.{get_or-set_same}
use Rattle.base.specs.Tests.{is_true}
use Rattle.base.specs.Options.{none-some}
use Rattle.model.specs.Lists.{one_if, count_if, is_some, at_slot, In}
use Rattle.model.specs.State.{State, Handle, Domain, Region, Access, region, domain_at, with_locals}
use Rattle.model.specs.Pool.{is_live, handle_of}
use Rattle.model.specs.Calls.{live_domain, live_region, region_held, room_for_region}
use Rattle.model.specs.Sound.{Sound, is_region_of}
use Rattle.laws.specs.Accepted.{All, accepted, bind, weaken, checked}
use Rattle.laws.specs.Tree.Slots.{in-length, live-is, is_live_lem}
use Rattle.laws.specs.Tree.Facts.{same}
use Rattle.laws.specs.Keep.Agreement.{TrackersAgree, sound-agree}
use Rattle.laws.specs.Keep.Base.{Base, sound-base}
use Rattle.laws.specs.Keep.BaseSteps.{listed-base}
use Rattle.laws.specs.Keep.Locals.{listed-agree, capacity-all}
use Rattle.laws.specs.Capas.Checks.{as-region}
use Rattle.laws.specs.Capas.Checks.{capa-at}
use Rattle.laws.specs.Tree.Steps.{domain-at}

-- ---- a live domain, a live region

pub domain-live : (s : State) (h : Handle) → All (λ d. (x : Domain) × In s.domains d x) (live_domain s h)
unfolding live_domain
domain-live s h = checked (is_live s.domain_pool s.domains h) _ (λ t. accepted (live-is (at_slot s.domains h.slot) (search and_l)))

pub region-live : (s : State) (h : Handle) → All (λ i. (i ≡ h.slot) × T (is_live s.region_pool s.regions h)) (live_region s h)
unfolding live_region
region-live s h = checked (is_live s.region_pool s.regions h) _ (λ t. accepted (refl, t))

-- ---- what a slot holds

-- what a slot holds is counted
count-in : {A : Type 0} (p : Option A → Bool) (l : List (Option A)) (i : ℕ) (x : A) → In l i x → T (p (some x)) → 0 < count_if p l
count-in p [] i x e t = absurd (none-some none x refl e)
count-in p (o ∷ l) zero x e t = omega (arith, ap (λ (b : Bool). one_if b) (ap p e ∙ is_true t))
count-in p (o ∷ l) (suc i) x e t = omega (arith, count-in p l i x e t)

module _ (s : State) (sound : Sound s) (d : ℕ) (x : Domain) (e : In s.domains d x) where
  -- the live region of a Region slot of domain d is d's
  pub own-region : (l : ℕ) (h : Handle) → In (domain_at s d).locals.held l (region h) → T (is_live s.region_pool s.regions h) → (g : Region) × In s.regions h.slot g × (g.owner ≡ d)
  own-region l h m t =
      let (g, i) = live-is (at_slot s.regions h.slot) (and_l (is_some (at_slot s.regions h.slot)) (eqb (get_or s.region_pool.gens h.slot 0) h.generation) t) in
      let gen : T (eqb (get_or s.region_pool.gens h.slot 0) h.generation) = and_r (is_some (at_slot s.regions h.slot)) (eqb (get_or s.region_pool.gens h.slot 0) h.generation) t in
      let own : T (is_region_of (handle_of s.region_pool h.slot) (some (region h))) = rw (eq-eqb h.slot h.slot refl) gen in
      (g, i, same g.owner d (omega (arith, (sound.outside.owners h.slot g i).one_slot d x e, count-in (is_region_of (handle_of s.region_pool h.slot)) x.locals.held l (region h) (rw (domain-at s d x e) at m) own)))

  pub held-own : (l : ℕ) → All (λ i. (g : Region) × In s.regions i g × (g.owner ≡ d)) (region_held s d l)
  unfolding region_held
  held-own l =
      bind (capa-at s d l) (λ c m.
      bind (as-region c) (λ h q.
      weaken (region-live s h) (λ i (n, t).
      rw n (own-region l h (m ∙ ap some q) t))))

  -- ---- room

  pub record Room (a : Access) (t : State) : Type 0 where
    pub agree : TrackersAgree t
    pub base : Base t
    pub regions : t.regions ≡ s.regions
    pub domain : Domain
    pub at : In t.domains d domain
    pub nonempty : a.start < a.end

  pub room-agree : (a : Access) → All (Room a) (room_for_region d a s)
  unfolding room_for_region
  room-agree a =
      checked _ _ (λ u.
      bind (capacity-all d s (λ t. a.start < a.end → Room a t) (λ l z. record {
        agree = listed-agree s d x e l s.regions (sound-agree s sound);
        base = (listed-base s d (sound-base s sound) (is_live_lem _ x e) l).0;
        regions = refl;
        domain = with_locals l (domain_at s d);
        at = get_or-set_same s.domains d (some (with_locals l (domain_at s d))) none (in-length s.domains d x e);
        nonempty = z;
      })) (λ t r.
      checked (ltb a.start a.end) _ (λ v. accepted (r (ltb→lt _ _ v)))))
