-- What an accepted revoke leaves: of a Management capability a close (`Closes`, crate laws), of a region a revoke of it (`Fell`); and then the caller's slot
-- is emptied.
use Rattle.std.specs.Prelude.{◌≡◌, ℕ, Bool, false, not, [], T, eqb}
use Rattle.std.proofs.Common.{sym, subst, inl, inr, T_not, eqb→eq}
use Rattle.std.proofs.Math.Path.{ap}
use Rattle.std.proofs.Math.Dec.{not_T, eqb_refl}
use Rattle.std.specs.Float.Ieee.Fits.{and_l}
use Rattle.base.specs.Options.{some_same}
use Rattle.model.specs.Lists.{at_slot, In}
use Rattle.model.specs.Outcome.{ok, ◌>>=◌}
use Rattle.model.specs.State.{State, Handle, Capa, region, region_revoke, management, Domain, Region, domain_at, region_at}
use Rattle.model.specs.Pool.{is_live}
use Rattle.model.specs.Locals.{empty_capa}
use Rattle.model.specs.Tree.{is_root_kind}
use Rattle.model.specs.Closing.{is_to_close, closes_root, closes_running}
use Rattle.model.specs.Calls.{revoke_unless_root, close_managed, revoke_capa, revoke}
use Rattle.model.specs.Perform.{Step, Call, perform_step, perform}
use Rattle.model.specs.Sound.{Sound}
use Rattle.laws.specs.Accepted.{All, accepted, bind, weaken, checked, branch-on, both, all-ok}
use Rattle.laws.specs.Tree.Slots.{live-is}
use Rattle.laws.specs.Tree.Steps.{region-at, domain-at}
use Rattle.laws.specs.Tree.Facts.{not_root}
use Rattle.laws.specs.Tree.Below.{Below}
use Rattle.laws.specs.Capas.Checks.{live-domain, capa-at, live-region}
use Rattle.laws.specs.Close.Revoke.{Fell, revoke-sound}
use Rattle.laws.specs.Close.Less.{fell-less}
use Rattle.laws.specs.Close.Closes.{Closes, close-after-22, rootless, not-running}
use Rattle.laws.specs.Close.Call.{caller-stays, revoke-call-sound}
use Rattle.closed.specs.Ends.{is_taken, dies, Ends, ContractEnds, TakesBack, RegionReturns}
use Rattle.closed.proofs.Found.{close-leads, leads-close, dies-above, below-dies, dies-doomed, doomed-dies}
use Rattle.closed.proofs.After.{regions-after, domains-after}

-- ---- what is done before the slot is emptied

-- the domain of handle k in slot d is closed
record CloseLeaves (s : State) (k : Handle) (d : ℕ) (t : State) : Type 0 where
  live : T (is_live s.domain_pool s.domains k)
  no_root : T (not (closes_root s d))
  not_running : T (not (closes_running s d))
  closes : Closes s d t

close-leaves : (s : State) → Sound s → (k : Handle) → All (CloseLeaves s k k.slot) (close_managed k s)
unfolding close_managed
close-leaves s sound k =
    bind (live-domain s k) (λ d o.
    checked (not (closes_root s d)) _ (λ u.
    checked (not (closes_running s d)) _ (λ w.
    weaken (close-after-22 s sound d o.domain o.is u) (λ t v. subst (λ n. CloseLeaves s k n t) (ap (λ (n : Handle). n.slot) o.handle) (record { live = o.live; no_root = u; not_running = w; closes = v })))))

-- region i is revoked
record RevokeLeaves (s : State) (i : ℕ) (t : State) : Type 0 where
  no_root : T (not (is_root_kind (region_at s i).kind))
  fell : Fell s i t

unless-root : (s : State) → Sound s → (i : ℕ) (g : Region) → In s.regions i g → All (RevokeLeaves s i) (revoke_unless_root i s)
unfolding revoke_unless_root
unless-root s sound i g e = checked (not (is_root_kind (region_at s i).kind)) _ (λ u.
    let (p, n) = not_root g.kind (subst (λ (v : Region). T (not (is_root_kind v.kind))) (region-at s i g e) u) in
    weaken (revoke-sound [] s sound i p g e n) (λ t f. record { no_root = u; fell = f }))

region-leaves : (s : State) → Sound s → (k : Handle) → All (RevokeLeaves s k.slot) (revoke_capa (region k) s)
unfolding revoke_capa
region-leaves s sound k = bind (live-region s k) (λ i r. weaken (unless-root s sound i r.region r.is) (λ t v. subst (λ n. RevokeLeaves s n t) (ap (λ (n : Handle). n.slot) r.handle) v))

named-leaves : (s : State) → Sound s → (k : Handle) → T (is_live s.region_pool s.regions k) → All (RevokeLeaves s k.slot) (revoke_capa (region_revoke k) s)
unfolding revoke_capa
named-leaves s sound k live = branch-on (is_live s.region_pool s.regions k)
    (λ u. let (g, e) = live-is (at_slot s.regions k.slot) (search and_l) in unless-root s sound k.slot g e)
    (λ u. absurd (T_not (is_live s.region_pool s.regions k) u live))

-- ---- the caller's slot emptied

module _ (s : State) (sound : Sound s) (h : Handle) (l : ℕ) (k : Handle) (x : Domain) (is : In s.domains h.slot x) (live : T (is_live s.domain_pool s.domains h)) (t : State) where
  close-ends : In x.locals.held l (management k) → CloseLeaves s k k.slot t → Sound (empty_capa h.slot l t) → Ends s h l k (empty_capa h.slot l t)
  close-ends held a m =
      let d = k.slot in
      let v = a.closes in
      record {
        sound = m;
        caller_live = live;
        live = a.live;
        rootless = λ i g e n. not_T (is_root_kind g.kind) (λ r. rootless s sound d a.no_root i g e r (close-leads s d g.owner n));
        stopped = λ e z f n. not-running s sound d a.not_running e z f (close-leads s d e n);
        domains = domains-after s (is_to_close s d) h.slot l x is (not_T (is_to_close s d h.slot) (λ n. caller-stays s sound h.slot l x is k held a.live (close-leads s d h.slot n))) t v.less
            (λ e n. v.gone e (close-leads s d e n))
            (λ e n. v.kept e (λ q. T_not (is_to_close s d e) n (leads-close s sound d e q))) m;
        regions = regions-after s sound (is_taken s d) t v.sound v.less
            (λ i g e n. v.dies i (dies-doomed s sound d i g e n))
            (λ i g e n. v.lives i (λ q. T_not (dies s (is_taken s d) i) n (doomed-dies s sound d i g e q))) h.slot l m;
      }

  takes_back_lem : RevokeLeaves s k.slot t → Sound (empty_capa h.slot l t) → TakesBack s h l k (empty_capa h.slot l t)
  takes_back_lem a m =
      let f = a.fell in
      let less = fell-less s t k.slot f in
      let taken : ℕ → Bool = λ i. eqb i k.slot in
      record {
        sound = m;
        caller_live = live;
        no_root = a.no_root;
        domains = domains-after s (λ e. false) h.slot l x is tt t less (λ e n. absurd n) (λ e n. f.same_domains.domains e) m;
        regions = regions-after s sound taken t f.sound less
            (λ i g e n. let b = dies-above s sound taken i g e n in f.revoked.gone i (subst (λ j. Below s.regions j i) (eqb→eq b.at k.slot b.here) b.below))
            (λ i g e n. f.revoked.kept i (λ q. T_not (dies s taken i) n (below-dies s sound taken i g e k.slot (eqb_refl k.slot) q))) h.slot l m;
      }

-- ---- the call, whatever is shown of its tables

module _ (s : State) (sound : Sound s) (h : Handle) (l : ℕ) (a : Capa) (held : In (domain_at s h.slot).locals.held l a) (P : State → Type 0) (Q : State → Type 0)
    (revokes : All Q (revoke_capa a s))
    (leaves : (x : Domain) → In s.domains h.slot x → T (is_live s.domain_pool s.domains h) → In x.locals.held l a → (t : State) → Q t → Sound (empty_capa h.slot l t) → P (empty_capa h.slot l t)) where
  on-slot : (c : ℕ) (x : Domain) (b : Capa) → In s.domains c x → T (is_live s.domain_pool s.domains h) → c ≡ h.slot → b ≡ a → All (λ u. Sound u → P u) (revoke_capa b s >>= λ t. ok (empty_capa c l t))
  on-slot c x b i live o e =
      let j : In s.domains h.slot x = subst (λ n. In s.domains n x) o i in
      let at : In x.locals.held l a = subst (λ (y : Domain). In y.locals.held l a) (domain-at s h.slot x j) held in
      subst (λ n. All (λ u. Sound u → P u) (revoke_capa n s >>= λ t. ok (empty_capa c l t))) (sym e)
      (bind revokes (λ t q. accepted (subst (λ n. Sound (empty_capa n l t) → P (empty_capa n l t)) (sym o) (leaves x j live at t q))))

  revoke-leaves : All (λ u. Sound u → P u) (revoke h l s)
  unfolding revoke
  revoke-leaves =
      bind (live-domain s h) (λ c m.
      bind (capa-at s c l) (λ b i.
      let o : c ≡ h.slot = ap (λ (n : Handle). n.slot) m.handle in
      on-slot c m.domain b m.is m.live o (some_same (at_slot (domain_at s h.slot).locals.held l) b a (subst (λ n. In (domain_at s n).locals.held l b) o i) held)))

  performed : All (λ y. P y.1) (perform s (Call.Do (Step.Revoke h l)))
  unfolding perform perform_step
  performed = bind (both (revoke-call-sound h l s sound) revoke-leaves) (λ u (p, q). accepted (q p))

-- THEOREM
pub contract-ends : ContractEnds
unfolding revoke_capa
contract-ends s h l k v t sound held e =
    all-ok (λ y. Ends s h l k y.1) (perform s (Call.Do (Step.Revoke h l))) (v, t)
    (performed s sound h l (management k) held (Ends s h l k) (CloseLeaves s k k.slot) (close-leaves s sound k) (λ x i live at u q. close-ends s sound h l k x i live u at q)) e

-- THEOREM
pub region-returns : RegionReturns
region-returns s h l k v t sound live (inl held) e =
    all-ok (λ y. TakesBack s h l k y.1) (perform s (Call.Do (Step.Revoke h l))) (v, t)
    (performed s sound h l (region k) held (TakesBack s h l k) (RevokeLeaves s k.slot) (region-leaves s sound k) (λ x i live' at u q. takes_back_lem s sound h l k x i live' u q)) e
region-returns s h l k v t sound live (inr held) e =
    all-ok (λ y. TakesBack s h l k y.1) (perform s (Call.Do (Step.Revoke h l))) (v, t)
    (performed s sound h l (region_revoke k) held (TakesBack s h l k) (RevokeLeaves s k.slot) (named-leaves s sound k live) (λ x i live' at u q. takes_back_lem s sound h l k x i live' u q)) e
