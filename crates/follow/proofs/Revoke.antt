-- Revoke keeps `Tracks` of the live domains: the region goes with all below it, or the managed domain with all that it manages. The caller is not
-- closed, so that the slot that is emptied is a live domain's.
use Rattle.std.proofs.Common.{sym, ap, subst, ◌∙◌, arith}
use Rattle.std.specs.Prelude.{ℕ, not}
use mathlib.Core.List.{[]}
use Rattle.model.specs.Lists.{at_slot, In}
use Rattle.model.specs.State.{State, Handle, Domain, Region, Capa, no_capa, region, region_revoke, management, channel, region_at}
use Rattle.model.specs.Pool.{is_live}
use Rattle.model.specs.Tree.{is_root_kind}
use Rattle.model.specs.Locals.{empty_capa}
use Rattle.model.specs.Sound.{Sound}
use Rattle.model.specs.Closing.{closes_root, live_domains}
use Rattle.model.specs.Calls.{revoke_unless_root, close_managed, revoke_capa, revoke}
use Rattle.laws.specs.Accepted.{All, accepted, bind, and_then, weaken, both, branch-on, checked}
use Rattle.laws.specs.Tree.Slots.{is_live_lem}
use Rattle.laws.specs.Tree.Facts.{not_root}
use Rattle.laws.specs.Tree.Steps.{region-at, domain-at}
use Rattle.laws.specs.Capas.Checks.{capa-at}
use Rattle.laws.specs.Keep.SameDomains.{same-domains-live}
use Rattle.laws.specs.Keep.Agreement.{sound-agree}
use Rattle.laws.specs.Keep.Base.{sound-base}
use Rattle.laws.specs.Keep.BaseSteps.{Live}
use Rattle.laws.specs.Keep.Checks.{domain-live, region-live}
use Rattle.laws.specs.Keep.Whole.{live-slot}
use Rattle.laws.specs.Close.Less.{domain-was}
use Rattle.laws.specs.Close.Closes.{first-turn}
use Rattle.laws.specs.Close.Call.{managed-closes, caller-stays}
use Rattle.follow.specs.Writer.{Seen}
use Rattle.follow.proofs.Steps.{Tracks, tracks-fewer}
use Rattle.follow.proofs.Calls.{emptied-tracks}
use Rattle.follow.proofs.Stays.{Stays, Tracking, region-follows, put-live}
use Rattle.follow.proofs.Close.{close-tracks}

-- the caller is domain x in slot c, and its slot l holds the capability
module _ (v : Seen) (s : State) (sound : Sound s) (h : Tracking [] v s) (c : ℕ) (x : Domain) (e : In s.domains c x) (l : ℕ) where
  abbrev Left : State → Type 0
  Left t = Tracking [] v t × Live t c

  live : Live s c
  live = is_live_lem (at_slot s.domains c) x e

  unless-follows : (i : ℕ) (g : Region) → In s.regions i g → All Left (revoke_unless_root i s)
  unfolding revoke_unless_root
  unless-follows i g m = checked (not (is_root_kind (region_at s i).kind)) _ (λ t.
      let (p, n) = not_root g.kind (rw (region-at s i g m) at t) in
      weaken (region-follows [] v s (sound-agree s sound, sound-base s sound) h i p g m n) (λ u (k, b). (k, same-domains-live b c live)))

  managed-tracks : (k : Handle) → All (Tracking [] v) (close_managed k s)
  unfolding close_managed
  managed-tracks k = bind (domain-live s k) (λ d (z, f). checked (not (closes_root s d)) _ (λ u. and_then _ (close-tracks v s d z (first-turn s sound d z f u) (live_domains s) (omega arith) h)))

  managed-follows : (k : Handle) → In x.locals.held l (management k) → All Left (close_managed k s)
  managed-follows k at = weaken (both (managed-tracks k) (managed-closes s sound k)) (λ t (g, (i, w)).
      let (y, f, q) = domain-was (at_slot s.domains c) (at_slot t.domains c) x (sym (w.kept c (caller-stays s sound c l x e k at i))) e in
      (g, is_live_lem (at_slot t.domains c) y f))

  revoke-capa : (a : Capa) → In x.locals.held l a → All Left (revoke_capa a s)
  unfolding revoke_capa
  revoke-capa no_capa at = accepted (h, live)
  revoke-capa (region k) at = bind (region-live s k) (λ i (n, t). let (g, m) = live-slot s k t in unless-follows i g (ap (at_slot s.regions) n ∙ m))
  revoke-capa (region_revoke k) at = branch-on (is_live s.region_pool s.regions k) (λ t. let (g, m) = live-slot s k t in unless-follows k.slot g m) (λ t. accepted (h, live))
  revoke-capa (management k) at = managed-follows k at
  revoke-capa (channel k) at = accepted (h, live)

-- ---- the call

empty-tracks : (v : Seen) (d l : ℕ) (s : State) → Live s d → Tracking [] v s → Tracks (Live (empty_capa d l s)) v (empty_capa d l s)
unfolding empty_capa
empty-tracks v d l s live h = tracks-fewer (Stays [] s) _ v _ (λ k t. (put-live s d _ live k t, tt)) (emptied-tracks v d l s h)

pub revoke-call : (v : Seen) (s : State) → Sound s → Tracks (Live s) v s → (k : Handle) (l : ℕ) → All (λ t. Tracks (Live t) v t) (revoke k l s)
unfolding revoke
revoke-call v s sound h k l =
    bind (domain-live s k) (λ d (x, e).
    bind (capa-at s d l) (λ c u.
    bind (revoke-capa v s sound (tracks-fewer (Live s) (Stays [] s) v s (λ d t. t.0) h) d x e l c (subst (λ (y : Domain). In y.locals.held l c) (domain-at s d x e) u)) (λ s₁ (h₁, live).
    accepted (empty-tracks v d l s₁ live h₁))))
