-- The call Revoke keeps the tables sound. The region goes with all below it, or the managed domain with all that it manages; what is closed is below the
-- caller, so that the caller stays, with its list. The slot names nothing live then, and is emptied.
use Rattle.std.specs.Prelude.{◌≡◌, refl, ℕ, not, eqb}
use Rattle.std.proofs.Common.{sym, ap, subst, ◌∙◌, arith}
use Rattle.std.proofs.Math.Option.{Option, none, some}
use mathlib.Core.List.{[]}
use Rattle.std.proofs.Math.Dec.{T, eqb_refl}
use Rattle.std.specs.Float.Ieee.Fits.{and_l, and_i}
use Rattle.base.specs.Tests.{is_true}
use Rattle.model.specs.Lists.{one_if, is_some, at_slot, In}
use Rattle.model.specs.State.{State, Handle, Capa, no_capa, region, region_revoke, management, channel, LocalList, Domain, Region, region_at}
use Rattle.model.specs.Pool.{handle_of, is_live, same_handle}
use Rattle.model.specs.Locals.{empty_capa}
use Rattle.model.specs.Tree.{is_root_kind}
use Rattle.model.specs.Sound.{Sound, is_management_of}
use Rattle.model.specs.Closing.{closes_root, closes_running}
use Rattle.model.specs.Calls.{revoke_unless_root, close_managed, revoke_capa, revoke}
use Rattle.laws.specs.Accepted.{All, accepted, bind, weaken, checked, branch-on}
use Rattle.laws.specs.Tree.Slots.{is_live_lem, live-is}
use Rattle.laws.specs.Tree.Facts.{named, not_root}
use Rattle.laws.specs.Tree.Below.{Below}
use Rattle.laws.specs.Tree.Steps.{region-at, domain-at}
use Rattle.laws.specs.Capas.List.{count-written}
use Rattle.laws.specs.Capas.Live.{live-handle, handle-differs}
use Rattle.laws.specs.Capas.Held.{owned_by, managed_by, capas-sound, others-sound}
use Rattle.laws.specs.Capas.Change.{Plus, empty-held}
use Rattle.laws.specs.Capas.Checks.{live-domain, capa-at, live-region}
use Rattle.laws.specs.Capas.Listed.{empty-listed, listed-sound, plus_none}
use Rattle.laws.specs.Keep.SameDomains.{same-domains-in}
use Rattle.laws.specs.Close.Managers.{Leads, leads-rank, ranks, ranks-are}
use Rattle.laws.specs.Close.Revoke.{Fell, revoke-sound}
use Rattle.laws.specs.Close.Less.{Less, less-self, fell-less, domain-was}
use Rattle.laws.specs.Close.Closes.{Closes, close-after-22}

-- Slot l of domain c, which holds capability a, may be emptied in t: the tables are sound, and what the slot holds is no live region's and no live domain's.
pub record Emptiable (s : State) (c l : ℕ) (a : Capa) (t : State) : Type 0 where
  pub sound : Sound t
  pub less : Less s t
  pub domain : Domain
  pub is : In t.domains c domain
  pub at : In domain.locals.held l a
  pub plus : Plus t c a (owned_by t) (managed_by t) (owned_by t) (managed_by t)

emptied-sound : (s : State) (c l : ℕ) (a : Capa) (t : State) → Emptiable s c l a t → Sound (empty_capa c l t)
emptied-sound s c l a t h =
    let own = owned_by t in
    let man = managed_by t in
    listed-sound t (empty_capa c l t) (others-sound t h.sound) (empty-listed t c l h.domain h.is) (empty-held own man t (capas-sound t h.sound) c h.domain h.is own man a l h.at h.plus)

-- THEOREM: what the accepted close of the domain with handle k leaves
pub managed-closes : (s : State) → Sound s → (k : Handle) → All (λ t. T (is_live s.domain_pool s.domains k) × Closes s k.slot t) (close_managed k s)
unfolding close_managed
managed-closes s h k =
    bind (live-domain s k) (λ d o.
    checked (not (closes_root s d)) _ (λ u.
    checked (not (closes_running s d)) _ (λ w.
    weaken (close-after-22 s h d o.domain o.is u) (λ t v. (o.live, subst (λ n. Closes s n t) (ap (λ (n : Handle). n.slot) o.handle) v)))))

-- the slot of a handle is free
region-gone : (t : State) (c : ℕ) (k : Handle) → at_slot t.regions k.slot ≡ none → Plus t c (region k) (owned_by t) (managed_by t) (owned_by t) (managed_by t)
region-gone t c k z = record {
  regions = λ i g e. omega (arith, ap one_if (handle-differs (λ x. T (is_some (at_slot t.regions x.slot))) (handle_of t.region_pool i) k (is_live_lem (at_slot t.regions i) g e) (λ u. subst (λ (o : Option Region). T (is_some o)) z u)));
  domains = λ i y e. omega arith;
  own_else = λ i j o. refl;
  man_else = λ i j o. refl;
}

domain-gone : (t : State) (c : ℕ) (k : Handle) → at_slot t.domains k.slot ≡ none → Plus t c (management k) (owned_by t) (managed_by t) (owned_by t) (managed_by t)
domain-gone t c k z = record {
  regions = λ i g e. omega arith;
  domains = λ i y e. omega (arith, ap one_if (handle-differs (λ x. T (is_some (at_slot t.domains x.slot))) (handle_of t.domain_pool i) k (is_live_lem (at_slot t.domains i) y e) (λ u. subst (λ (o : Option Domain). T (is_some o)) z u)));
  own_else = λ i j o. refl;
  man_else = λ i j o. refl;
}

module _ (s : State) (h : Sound s) (c l : ℕ) (x : Domain) (e : In s.domains c x) where
  stays : (a : Capa) → In x.locals.held l a → Plus s c a (owned_by s) (managed_by s) (owned_by s) (managed_by s) → Emptiable s c l a s
  stays a at plus = record { sound = h; less = less-self s; domain = x; is = e; at = at; plus = plus }

  -- ---- a region

  fell : (a : Capa) → In x.locals.held l a → (i : ℕ) (t : State) → Plus t c a (owned_by t) (managed_by t) (owned_by t) (managed_by t) → Fell s i t → Emptiable s c l a t
  fell a at i t plus f =
      let (y, m, q) = same-domains-in f.same_domains c x e in
      record { sound = f.sound; less = fell-less s t i f; domain = y; is = m; at = subst (λ (w : LocalList). In w.held l a) (sym (ap (λ (w : Domain). w.locals) q)) at; plus = plus }

  unless-root : (i : ℕ) (g : Region) → In s.regions i g → All (Fell s i) (revoke_unless_root i s)
  unfolding revoke_unless_root
  unless-root i g m = checked (not (is_root_kind (region_at s i).kind)) _ (λ t.
      let (p, n) = not_root g.kind (subst (λ (v : Region). T (not (is_root_kind v.kind))) (region-at s i g m) t) in
      revoke-sound [] s h i p g m n)

  -- ---- a managed domain

  module _ (k : Handle) (at : In x.locals.held l (management k)) where
    -- the domain that the capability names has the caller for manager
    manages : (d : ℕ) (z : Domain) → In s.domains d z → handle_of s.domain_pool d ≡ k → z.manager ≡ some c
    manages d z f q =
        let i = handle_of s.domain_pool d in
        let t : same_handle i k ≡ _ = is_true (subst (λ w. T (same_handle i w)) q (and_i (eqb d d) (eqb i.generation i.generation) (eqb_refl d) (eqb_refl i.generation))) in
        named z.manager c (omega (arith, count-written (is_management_of i) x.locals.held l (management k) none at, ap one_if t, (h.outside.managers d z f).one_management c x e))

    -- so the caller is not closed with it: managers form no circle
    apart : (d : ℕ) (z : Domain) → In s.domains d z → z.manager ≡ some c → Leads s.domains d c → ⊥
    apart d z f m v = omega (arith, (ranks-are s h).child d c z f m, leads-rank s.domains (ranks s h) (ranks-are s h) d c v)

    pub caller-stays : T (is_live s.domain_pool s.domains k) → Leads s.domains k.slot c → ⊥
    caller-stays t =
        let (z, f) = live-is (at_slot s.domains k.slot) (search and_l) in
        apart k.slot z f (manages k.slot z f (live-handle s.domain_pool s.domains k t))

    closed : (t : State) → T (is_live s.domain_pool s.domains k) × Closes s k.slot t → Emptiable s c l (management k) t
    closed t (live, v) =
        let n = caller-stays live in
        let (y, f, m) = domain-was (at_slot s.domains c) (at_slot t.domains c) x (sym (v.kept c n)) e in
        record { sound = v.sound; less = v.less; domain = y; is = f; at = subst (λ (w : LocalList). In w.held l (management k)) (sym (ap (λ (w : Domain). w.locals) m)) at; plus = domain-gone t c k (v.gone k.slot (Leads.here refl)) }

  -- ---- any capability

  pub empties : (a : Capa) → In x.locals.held l a → All (Emptiable s c l a) (revoke_capa a s)
  unfolding revoke_capa
  empties no_capa at = accepted (stays no_capa at (plus_none s c no_capa _ _ (λ k. refl) (λ k. refl)))
  empties (region k) at = bind (live-region s k) (λ i r. weaken (unless-root i r.region r.is) (λ t f. fell (region k) at i t (region-gone t c k (ap (λ (m : Handle). at_slot t.regions m.slot) (sym r.handle) ∙ f.revoked.gone i (Below.here refl))) f))
  empties (region_revoke k) at = branch-on (is_live s.region_pool s.regions k)
      (λ t. let (g, m) = live-is (at_slot s.regions k.slot) (search and_l) in weaken (unless-root k.slot g m) (λ u f. fell (region_revoke k) at k.slot u (plus_none u c (region_revoke k) _ _ (λ n. refl) (λ n. refl)) f))
      (λ t. accepted (stays (region_revoke k) at (plus_none s c (region_revoke k) _ _ (λ n. refl) (λ n. refl))))
  empties (management k) at = weaken (managed-closes s h k) (closed k at)
  empties (channel k) at = accepted (stays (channel k) at (plus_none s c (channel k) _ _ (λ n. refl) (λ n. refl)))

-- what an accepted Revoke of slot l leaves: fewer regions and domains, and then the caller's slot emptied
pub record RevokeLeaves (s : State) (l : ℕ) (t : State) : Type 0 where
  pub sound : Sound t
  pub caller : ℕ
  pub before : State
  pub less : Less s before
  pub domain : Domain
  pub there : In before.domains caller domain
  pub is : t ≡ empty_capa caller l before

pub revoke-leaves : (h : Handle) (l : ℕ) (s : State) → Sound s → All (RevokeLeaves s l) (revoke h l s)
unfolding revoke
revoke-leaves h l s k =
    bind (live-domain s h) (λ c m.
    bind (capa-at s c l) (λ a u.
    bind (empties s k c l m.domain m.is a (subst (λ (v : Domain). In v.locals.held l a) (domain-at s c m.domain m.is) u)) (λ t n.
    accepted (record { sound = emptied-sound s c l a t n; caller = c; before = t; less = n.less; domain = n.domain; there = n.is; is = refl }))))

-- THEOREM: it leaves sound tables sound
pub revoke-call-sound : (h : Handle) (l : ℕ) (s : State) → Sound s → All Sound (revoke h l s)
revoke-call-sound h l s k = weaken (revoke-leaves h l s k) (λ t n. n.sound)
