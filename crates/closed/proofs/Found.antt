-- The tests find what crate laws speaks of: `is_to_close` the domains whose managers lead to the closed one (`Leads`); `dies` the regions that are below a taken
-- one (`Below`), and those of a close that are doomed (`Doomed`).
use Rattle.std.specs.Prelude.{◌≡◌, Bool, ◌&&◌, List, [], ◌∷◌}
use Rattle.std.proofs.Math.Path.{refl, subst}
use Rattle.std.proofs.Common.{sym, ap, ◌∙◌, arith, ltb→lt, lt→ltb, eq-eqb}
use Prim.Native.Nat.{ℕ, zero, suc, ◌≤◌, ◌<◌}
use Rattle.std.proofs.Math.Bool.{false}
use Rattle.std.proofs.Math.Option.{Option, none, some, get_or}
use Rattle.std.proofs.Math.Dec.{T}
use Rattle.std.specs.Float.Ieee.Fits.{and_l, and_r, and_i}
use Rattle.base.specs.Cases.{holds, fails, test}
use Rattle.base.specs.Tests.{true-is, or_l, or_r}
use Rattle.model.specs.Lists.{is_some, exists, count_if, count_up, at_slot, In}
use Rattle.model.specs.State.{State, Handle, Domain, Region, parent_of, none_domain, domain_at, region_at}
use Rattle.model.specs.Pool.{handle_of}
use Rattle.model.specs.Closing.{closes_with, is_to_close}
use Rattle.model.specs.Sound.{Sound}
use Rattle.laws.specs.Stack.{any-count}
use Rattle.laws.specs.Tree.Slots.{in-length, live-is}
use Rattle.laws.specs.Tree.Steps.{region-at, domain-at}
use Rattle.laws.specs.Tree.Rank.{Ranked, rank, ranked, rank-low}
use Rattle.laws.specs.Tree.Below.{Below, below-trans}
use Rattle.laws.specs.Capas.Live.{handle-live, live-handle}
use Rattle.laws.specs.Close.Managers.{Leads, found-leads}
use Rattle.laws.specs.Close.Doomed.{Doomed}
use Rattle.laws.specs.Close.Closes.{count-length, closed-found, exists-up}
use Rattle.closed.specs.Ends.{is_revoke_of, is_named, is_taken, dies_within, dies}

-- ---- tests of lists

-- who passes
passes-one : {A : Type 0} (p : A → Bool) (l : List A) → T (exists p l) → (x : A) × T (p x)
passes-one p [] t = absurd t
passes-one p (x ∷ l) t = elim (test (p x)) [ holds o ↦ (x, true-is o) | fails o ↦ passes-one p l (rw o at t) ]

counted : {A : Type 0} (p : A → Bool) (l : List A) → T (exists p l) → 0 < count_if p l
counted p l t = ltb→lt 0 (count_if p l) (subst T (any-count p l) t)

found-by-count : {A : Type 0} (p : A → Bool) (l : List A) → 0 < count_if p l → T (exists p l)
found-by-count p l h = subst T (sym (any-count p l)) (lt→ltb 0 (count_if p l) h)

-- ---- domains

pub close-leads : (s : State) (d e : ℕ) → T (is_to_close s d e) → Leads s.domains d e
close-leads s d e t = found-leads s.domains s.sizes.domains d e t

closes-itself : (ds : List (Option Domain)) (n d e : ℕ) → e ≡ d → T (closes_with ds n d e)
closes-itself ds zero d e o = rw (eq-eqb e d o) tt
closes-itself ds (suc n) d e o = rw (eq-eqb e d o) tt

pub leads-close : (s : State) → Sound s → (d e : ℕ) → Leads s.domains d e → T (is_to_close s d e)
leads-close s h d e (Leads.here o) = closes-itself s.domains s.sizes.domains d e o
leads-close s h d e (Leads.step m y f n b) = closed-found s h d e y f (Leads.step m y f n b)

-- ---- regions that are taken

module _ (s : State) (d i : ℕ) where
  abbrev named : ℕ → Bool
  named e = is_to_close s d e && exists (is_revoke_of (handle_of s.region_pool i)) (domain_at s e).locals.held

  -- a closed domain whose list names the region
  record Namer : Type 0 where
    at : ℕ
    domain : Domain
    is : In s.domains at domain
    leads : Leads s.domains d at
    names : 0 < count_if (is_revoke_of (handle_of s.region_pool i)) domain.locals.held

  namer-at : (e : ℕ) → T (is_to_close s d e) → (o : Option Domain) → at_slot s.domains e ≡ o → T (exists (is_revoke_of (handle_of s.region_pool i)) (get_or o none_domain).locals.held) → Namer
  namer-at e c none f t = absurd t
  namer-at e c (some x) f t = record { at = e; domain = x; is = f; leads = close-leads s d e c; names = counted _ x.locals.held t }

  namer : T (is_named s d i) → Namer
  unfolding is_named
  namer t =
      let (e, u) = passes-one named (count_up 0 s.sizes.domains) t in
      let p = is_to_close s d e in
      let q = exists (is_revoke_of (handle_of s.region_pool i)) (domain_at s e).locals.held in
      namer-at e (and_l p q u) (at_slot s.domains e) refl (and_r p q u)

  names-it : Sound s → (e : ℕ) (x : Domain) → In s.domains e x → Leads s.domains d e → 0 < count_if (is_revoke_of (handle_of s.region_pool i)) x.locals.held → T (is_named s d i)
  unfolding is_named
  names-it h e x f l n =
      let q : T (exists (is_revoke_of (handle_of s.region_pool i)) (domain_at s e).locals.held) = subst (λ (y : Domain). T (exists (is_revoke_of (handle_of s.region_pool i)) y.locals.held)) (sym (domain-at s e x f)) (found-by-count _ x.locals.held n) in
      exists-up named s.sizes.domains 0 e (omega arith) (omega (arith, in-length s.domains e x f, h.outside.domains_length)) (and_i (is_to_close s d e) _ (leads-close s h d e l) q)

-- ---- regions that die

module _ (s : State) (sound : Sound s) (taken : ℕ → Bool) where
  -- a taken region that is i or stands above it
  pub record Above (i : ℕ) : Type 0 where
    pub at : ℕ
    pub region : Region
    pub is : In s.regions at region
    pub here : T (taken at)
    pub below : Below s.regions at i

  further : (i p : ℕ) (g : Region) → In s.regions i g → parent_of g.kind ≡ some p → Above p → Above i
  further i p g e q a = record { at = a.at; region = a.region; is = a.is; here = a.here; below = Below.step p g e q a.below }

  within-above : (n i : ℕ) (g : Region) → In s.regions i g → T (dies_within s taken n i) → Above i
  unfolding dies_within
  within-above zero i g e t = record { at = i; region = g; is = e; here = t; below = Below.here refl }
  within-above (suc n) i g e t = elim (test (taken i)) [
    | holds o ↦ record { at = i; region = g; is = e; here = true-is o; below = Below.here refl }
    | fails o ↦ up (parent_of g.kind) refl (within-above n) (subst (λ (v : Region). T (elim (parent_of v.kind) [ none ↦ false | some p ↦ dies_within s taken n p ])) (region-at s i g e) (rw o at t))
  ]
    where
      up : (o : Option ℕ) → parent_of g.kind ≡ o → ((p : ℕ) (x : Region) → In s.regions p x → T (dies_within s taken n p) → Above p) → T (elim o [ none ↦ false | some p ↦ dies_within s taken n p ]) → Above i
      up none q on u = absurd u
      up (some p) q on u = let (x, f) = live-is (at_slot s.regions p) ((sound.outside.regions i g e).parent_live p q) in further i p g e q (on p x f u)

  pub dies-above : (i : ℕ) (g : Region) → In s.regions i g → T (dies s taken i) → Above i
  unfolding dies
  dies-above i g e t = within-above s.sizes.regions i g e t

  -- ---- and the other way round

  ranks : ℕ → ℕ
  ranks = rank s.regions sound.outside.regions

  ranks-are : Ranked s.regions ranks
  unfolding ranks
  ranks-are = ranked s.regions sound.outside.regions

  below-within : (n j i : ℕ) → T (taken j) → ranks i ≤ n → Below s.regions j i → T (dies_within s taken n i)
  unfolding dies_within
  below-within zero j i t u (Below.here o) = subst (λ m. T (taken m)) (sym o) t
  below-within zero j i t u (Below.step p x e q b) = absurd (omega (arith, ranks-are.child i p x e q))
  below-within (suc n) j i t u (Below.here o) = or_l (taken i) _ (subst (λ m. T (taken m)) (sym o) t)
  below-within (suc n) j i t u (Below.step p x e q b) =
      or_r (taken i) _ (subst (λ o. T (elim o [ none ↦ false | some m ↦ dies_within s taken n m ])) (sym (ap (λ (v : Region). parent_of v.kind) (region-at s i x e) ∙ q)) (below-within n j p t (omega (arith, ranks-are.child i p x e q)) b))

  pub below-dies : (i : ℕ) (g : Region) → In s.regions i g → (j : ℕ) → T (taken j) → Below s.regions j i → T (dies s taken i)
  unfolding dies
  below-dies i g e j t b = below-within s.sizes.regions j i t (omega (arith, rank-low s.regions sound.outside.regions ranks ranks-are i g e, count-length is_some s.regions, sound.outside.regions_length)) b

-- ---- regions that a close dooms

module _ (s : State) (sound : Sound s) (d : ℕ) where
  doomed-below : (j i : ℕ) → Doomed s d j → Below s.regions j i → Doomed s d i
  doomed-below j i (Doomed.owned k w f l a) b = Doomed.owned k w f l (below-trans s.regions k j i a b)
  doomed-below j i (Doomed.named k x m f l n u a) b = Doomed.named k x m f l n u (below-trans s.regions m.slot j i a b)

  taken-doomed : (i : ℕ) (g : Region) → In s.regions i g → T (is_taken s d i) → Doomed s d i
  unfolding is_taken
  taken-doomed i g e t = elim (test (is_to_close s d (region_at s i).owner)) [
    | holds o ↦ Doomed.owned i g e (subst (λ (v : Region). Leads s.domains d v.owner) (region-at s i g e) (close-leads s d (region_at s i).owner (true-is o))) (Below.here refl)
    | fails o ↦ let n = namer s d i (rw o at t) in Doomed.named n.at n.domain (handle_of s.region_pool i) n.is n.leads n.names (handle-live s.region_pool s.regions i g e) (Below.here refl)
  ]

  pub dies-doomed : (i : ℕ) (g : Region) → In s.regions i g → T (dies s (is_taken s d) i) → Doomed s d i
  dies-doomed i g e t = let a = dies-above s sound (is_taken s d) i g e t in doomed-below a.at i (taken-doomed a.at a.region a.is a.here) a.below

  owned-taken : (i : ℕ) (g : Region) → In s.regions i g → Leads s.domains d g.owner → T (is_taken s d i)
  unfolding is_taken
  owned-taken i g e l = or_l (is_to_close s d (region_at s i).owner) (is_named s d i) (subst (λ (v : Region). T (is_to_close s d v.owner)) (sym (region-at s i g e)) (leads-close s sound d g.owner l))

  named-taken : (i : ℕ) → T (is_named s d i) → T (is_taken s d i)
  unfolding is_taken
  named-taken i t = or_r (is_to_close s d (region_at s i).owner) (is_named s d i) t

  pub doomed-dies : (i : ℕ) (g : Region) → In s.regions i g → Doomed s d i → T (dies s (is_taken s d) i)
  doomed-dies i g e (Doomed.owned j w f l b) = below-dies s sound (is_taken s d) i g e j (owned-taken j w f l) b
  doomed-dies i g e (Doomed.named k x m f l n u b) =
      let h = sym (live-handle s.region_pool s.regions m u) in
      below-dies s sound (is_taken s d) i g e m.slot (named-taken m.slot (names-it s d m.slot sound k x f l (subst (λ (v : Handle). 0 < count_if (is_revoke_of v) x.locals.held) h n))) b
