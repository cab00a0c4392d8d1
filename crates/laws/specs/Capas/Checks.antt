-- What the checks of a call have found: a live domain, what a slot holds, a live region that a slot holds.
use Rattle.std.specs.Prelude.{◌≡◌, refl, ℕ, T, eqb}
use Rattle.std.proofs.Common.{sym, ap, subst, ◌∙◌, arith}
use Rattle.std.proofs.Math.Option.{Option, none, some}
use Rattle.std.proofs.Math.Dec.{eqb_refl}
use Rattle.std.specs.Float.Ieee.Fits.{and_l, and_i}
use Rattle.base.specs.Tests.{is_true}
use Rattle.model.specs.Lists.{one_if, at_slot, In}
use Rattle.model.specs.Outcome.{ok_or}
use Rattle.refusals.specs.declared.Refusal.{Refusal}
use Rattle.model.specs.State.{State, Handle, Capa, no_capa, region, region_revoke, management, channel, Domain, Region, domain_at}
use Rattle.model.specs.Pool.{handle_of, is_live, same_handle}
use Rattle.model.specs.Locals.{capa_at}
use Rattle.model.specs.Calls.{live_domain, live_region, as_region, region_held}
use Rattle.model.specs.Sound.{is_region_of}
use Rattle.laws.specs.Accepted.{All, accepted, refused, bind, weaken, checked}
use Rattle.laws.specs.Tree.Facts.{same}
use Rattle.laws.specs.Tree.Slots.{live-is}
use Rattle.laws.specs.Tree.Steps.{region-at, domain-at}
use Rattle.laws.specs.Capas.List.{count-written}
use Rattle.laws.specs.Capas.Live.{live-handle}
use Rattle.laws.specs.Capas.Held.{CapasSound}

-- h is the handle of a live domain, in slot d
pub record DomainOf (s : State) (h : Handle) (d : ℕ) : Type 0 where
  pub domain : Domain
  pub is : In s.domains d domain
  pub handle : handle_of s.domain_pool d ≡ h
  pub live : T (is_live s.domain_pool s.domains h)

-- h is the handle of a live region, in slot i
pub record RegionOf (s : State) (h : Handle) (i : ℕ) : Type 0 where
  pub region : Region
  pub is : In s.regions i region
  pub handle : handle_of s.region_pool i ≡ h

pub live-domain : (s : State) (h : Handle) → All (DomainOf s h) (live_domain s h)
unfolding live_domain
live-domain s h = checked _ _ (λ t. let (x, e) = live-is (at_slot s.domains h.slot) (search and_l) in accepted (record { domain = x; is = e; handle = live-handle s.domain_pool s.domains h t; live = t }))

pub live-region : (s : State) (h : Handle) → All (RegionOf s h) (live_region s h)
unfolding live_region
live-region s h = checked _ _ (λ t. let (x, e) = live-is (at_slot s.regions h.slot) (search and_l) in accepted (record { region = x; is = e; handle = live-handle s.region_pool s.regions h t }))

there : {A : Type 0} (x : Option A) (r : Refusal) → All (λ a. x ≡ some a) (ok_or x r)
unfolding ok_or
there none r = refused
there (some a) r = accepted refl

pub capa-at : (s : State) (d l : ℕ) → All (λ c. In (domain_at s d).locals.held l c) (capa_at s d l)
unfolding capa_at
capa-at s d l = there (at_slot (domain_at s d).locals.held l) _

pub as-region : (c : Capa) → All (λ h. c ≡ region h) (as_region c)
as-region no_capa = refused
as-region (region h) = accepted refl
as-region (region_revoke h) = refused
as-region (management h) = refused
as-region (channel h) = refused

-- local slot l of domain d holds the live region in slot i
pub record HeldRegion (s : State) (d l i : ℕ) : Type 0 where
  pub region : Region
  pub is : In s.regions i region
  pub slot : In (domain_at s d).locals.held l (Capa.region (handle_of s.region_pool i))

pub region-held : (s : State) (d l : ℕ) → All (HeldRegion s d l) (region_held s d l)
unfolding region_held
region-held s d l =
    bind (capa-at s d l) (λ c u.
    bind (as-region c) (λ h v.
    weaken (live-region s h) (λ i r. record { region = r.region; is = r.is; slot = u ∙ ap some (v ∙ ap region (sym r.handle)) })))

-- and so the region is the domain's own
pub held-owner : (s : State) (d l i : ℕ) (x : Domain) → CapasSound s → In s.domains d x → (r : HeldRegion s d l i) → r.region.owner ≡ d
held-owner s d l i x h e r =
    let k = handle_of s.region_pool i in
    let t : same_handle k k ≡ _ = is_true (and_i (eqb i i) (eqb k.generation k.generation) (eqb_refl i) (eqb_refl k.generation)) in
    let u : In x.locals.held l (region k) = subst (λ (y : Domain). In y.locals.held l (region k)) (domain-at s d x e) r.slot in
    same r.region.owner d (omega (arith, count-written (is_region_of k) x.locals.held l (region k) none u, ap one_if t, h.region_slots i r.region r.is d x e, ap (λ (g : Region). one_if (eqb g.owner d)) (region-at s i r.region r.is)))
