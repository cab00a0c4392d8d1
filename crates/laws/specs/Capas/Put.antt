-- A live domain is put back with another core map and another interface, both of words, and with its manager, list and tracker as they were: Sound is kept.
use Rattle.std.specs.Prelude.{refl, ℕ}
use Rattle.std.proofs.Common.{sym, subst}
use Rattle.model.specs.Lists.{In}
use Rattle.model.specs.State.{Word, Interface, Domain, State, domain_at, put_domain}
use Rattle.model.specs.Sound.{Sound}
use Rattle.laws.specs.Capas.Held.{owned_by, managed_by, capas-sound, others-sound}
use Rattle.laws.specs.Tree.Steps.{domain-at}
use Rattle.laws.specs.Capas.Domain.{back, put-others, put-held}
use Rattle.laws.specs.Capas.Listed.{listed-sound}

-- `with_cores` and `with_interface` in one
abbrev with_both : ℕ → Interface → Domain → Domain
with_both c f x = record { manager = x.manager; cores = c; locals = x.locals; tracker = x.tracker; interface = f }

both-sound : (s : State) (d : ℕ) (x : Domain) (c : ℕ) (f : Interface) → Sound s → In s.domains d x → Word c → Word f.word → Sound (put_domain d (with_both c f x) s)
both-sound s d x c f k e w v =
    let y = with_both c f x in
    let own = owned_by s in
    let man = managed_by s in
    let a = capas-sound s k in
    listed-sound s (put_domain d y s) (others-sound s k)
    (record { regions = refl; managers = back s d x y e refl; others = put-others s d x y e refl refl })
    (put-held s d x y e refl own man own man a w v (a.lists d x e) (λ i g n. a.region_slots i g n d x e) (λ j z n. a.management_slots j z n d x e) (λ i j o. refl) (λ i j o. refl))

-- c and f tell the new core map and interface from the domain
pub put-sound : (s : State) (d : ℕ) (x : Domain) (c : Domain → ℕ) (f : Domain → Interface) → Sound s → In s.domains d x → Word (c x) → Word (f x).word → let y = domain_at s d in Sound (put_domain d (with_both (c y) (f y) y) s)
put-sound s d x c f k e w v = subst (λ (y : Domain). Sound (put_domain d (with_both (c y) (f y) y) s)) (sym (domain-at s d x e)) (both-sound s d x (c x) (f x) k e w v)
