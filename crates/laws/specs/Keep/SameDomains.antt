-- What the steps on regions and trackers leave alone: the sizes, the domain pool, and each domain but for its tracker. A step on a tracker also leaves
-- the regions. Both relations are followed from state to state.
use Rattle.std.specs.Prelude.{◌≡◌, refl, ℕ, [], T, length}
use Rattle.std.proofs.Common.{sym, ap, ◌∙◌}
use Rattle.std.proofs.Math.Option.{Option, none, some}
use Rattle.base.specs.Options.{none-some}
use Rattle.model.specs.Lists.{is_some, at_slot, In}
use Rattle.model.specs.State.{State, Domain, with_tracker}
use Rattle.laws.specs.Tree.Slots.{live-is, is_live_lem}

-- a slot's domain without its tracker
abbrev pub untracked : Option Domain → Option Domain
untracked none = none
untracked (some x) = some (with_tracker [] x)

-- trackers, regions, the pools of both and the queue aside
pub record SameDomains (s t : State) : Type 0 where
  pub sizes : t.sizes ≡ s.sizes
  pub domain_pool : t.domain_pool ≡ s.domain_pool
  pub size : length t.domains ≡ length s.domains
  pub domains : (d : ℕ) → untracked (at_slot t.domains d) ≡ untracked (at_slot s.domains d)

-- and the regions
pub record SameOutside (s t : State) : Type 0 where
  pub same_domains : SameDomains s t
  pub region_pool : t.region_pool ≡ s.region_pool
  pub regions : t.regions ≡ s.regions

pub same-domains-self : (s : State) → SameDomains s s
same-domains-self s = record { sizes = refl; domain_pool = refl; size = refl; domains = λ d. refl }

pub same-domains-then : {s t u : State} → SameDomains s t → SameDomains t u → SameDomains s u
same-domains-then h k = record {
  sizes = k.sizes ∙ h.sizes;
  domain_pool = k.domain_pool ∙ h.domain_pool;
  size = k.size ∙ h.size;
  domains = λ d. k.domains d ∙ h.domains d;
}

pub same-domains-turned : {s t : State} → SameDomains s t → SameDomains t s
same-domains-turned h = record { sizes = sym h.sizes; domain_pool = sym h.domain_pool; size = sym h.size; domains = λ d. sym (h.domains d) }

pub same-outside-self : (s : State) → SameOutside s s
same-outside-self s = record { same_domains = same-domains-self s; region_pool = refl; regions = refl }

pub same-outside-then : {s t u : State} → SameOutside s t → SameOutside t u → SameOutside s u
same-outside-then h k = record { same_domains = same-domains-then h.same_domains k.same_domains; region_pool = k.region_pool ∙ h.region_pool; regions = k.regions ∙ h.regions }

-- a domain that is there is there still, with the same manager, cores, list and interface
pub same-domains-in : {s t : State} → SameDomains s t → (d : ℕ) (x : Domain) → In s.domains d x → (y : Domain) × In t.domains d y × (with_tracker [] y ≡ with_tracker [] x)
same-domains-in {s} {t} h d x e = go (at_slot t.domains d) refl (h.domains d ∙ ap untracked e)
  where
    go : (o : Option Domain) → at_slot t.domains d ≡ o → untracked o ≡ some (with_tracker [] x) → (y : Domain) × In t.domains d y × (with_tracker [] y ≡ with_tracker [] x)
    go none q k = absurd (none-some none (with_tracker [] x) refl k)
    go (some y) q k = (y, q, cc)

pub same-domains-live : {s t : State} → SameDomains s t → (d : ℕ) → T (is_some (at_slot s.domains d)) → T (is_some (at_slot t.domains d))
same-domains-live {s} {t} h d l =
    let x = live-is (at_slot s.domains d) l in
    let y = same-domains-in h d x.0 x.1 in
    is_live_lem (at_slot t.domains d) y.0 y.1
