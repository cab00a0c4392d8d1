-- The domains that are live after a close are exactly those whose managers do not lead to the closed one, each with the list, manager, core map and
-- interface it had; a region dies exactly if it or one above it is a closed domain's or named by a RegionRevoke in a closed domain's list. And the tests
-- before a close: 22 says that no domain to be closed holds a root, 23 that none has a core map.
use Rattle.std.specs.Prelude.{◌≡◌, refl, ℕ, zero, suc, ◌+◌, ◌≤◌, ◌<◌, Bool, not, ◌&&◌, List, [], ◌∷◌, T, eqb, length, get_or}
use Rattle.std.proofs.Common.{sym, ap, subst, ◌∙◌, arith, T_not, eqb→eq, ne_eqb}
use Rattle.std.proofs.Math.Option.{Option, none, some}
use Rattle.std.proofs.Math.Decide.{ℕ_discrete}
use Rattle.std.specs.Float.Ieee.Fits.{and_r, and_i}
use Rattle.base.specs.Cases.{lt, ge, cmp}
use Rattle.base.specs.Options.{none-some, some_same}
use Rattle.base.specs.Tests.{or_l, or_r}
use Rattle.model.specs.Lists.{is_some, exists, count_if, count_up, at_slot, In}
use Rattle.model.specs.State.{State, Domain, Region, parent_of, with_tracker, domain_at}
use Rattle.model.specs.Tree.{is_root_kind}
use Rattle.model.specs.Sound.{Sound}
use Rattle.model.specs.Closing.{close_domain, live_domains, is_to_close, root_to_close, closes_root, closes_running}
use Rattle.laws.specs.Accepted.{All, weaken}
use Rattle.laws.specs.Stack.{one_at_most}
use Rattle.laws.specs.Tree.Slots.{in-length, live-is}
use Rattle.laws.specs.Tree.Change.{bare}
use Rattle.laws.specs.Tree.Steps.{domain-at}
use Rattle.laws.specs.Tree.Below.{Below}
use Rattle.laws.specs.Capas.Slots.{count_none}
use Rattle.laws.specs.Keep.SameDomains.{untracked}
use Rattle.laws.specs.Close.Managers.{Leads, ranks, ranks-are, ranks-low, leads-found}
use Rattle.laws.specs.Close.Less.{Less, had, Past}
use Rattle.laws.specs.Close.Doomed.{is_revoke_of, not-revoke, Doomed}
use Rattle.laws.specs.Close.Between.{NoRoot, Closed}
use Rattle.laws.specs.Close.Visit.{Turn}
use Rattle.laws.specs.Close.Close.{close-sound}

pub record Closes (s : State) (d : ℕ) (t : State) : Type 0 where
  pub sound : Sound t
  -- regions and domains that are left are as they were, no generation falls, and that of who is gone has risen
  pub less : Less s t
  -- whoever is closed with d is gone, whoever is not stays, with list, manager, core map and interface
  pub gone : (k : ℕ) → Leads s.domains d k → at_slot t.domains k ≡ none
  pub kept : (k : ℕ) → (Leads s.domains d k → ⊥) → untracked (at_slot t.domains k) ≡ untracked (at_slot s.domains k)
  -- "Afterwards every region such a domain owned is dead"
  pub dead : (i : ℕ) (g : Region) → In t.regions i g → Leads s.domains d g.owner → ⊥
  -- a region dies exactly if it or one above it is a closed domain's or named by a RegionRevoke in a closed domain's list
  pub dies : (i : ℕ) → Doomed s d i → at_slot t.regions i ≡ none
  pub lives : (i : ℕ) → (Doomed s d i → ⊥) → bare (at_slot t.regions i) ≡ bare (at_slot s.regions i)

module _ (s : State) (d : ℕ) (t : State) (c : Closed s d t) where
  -- whoever is live after has a live manager still, and the managers lead to d, which is not live
  gone-go : (k : ℕ) (o : Option Domain) → at_slot t.domains k ≡ o → Leads s.domains d k → o ≡ none
  gone-go k none e l = refl
  gone-go k (some y) e (Leads.here o) = absurd (none-some (at_slot t.domains d) y c.free (subst (λ n. In t.domains n y) o e))
  gone-go k (some y) e (Leads.step m x f n l) = absurd (let (z, i) = live-is (at_slot t.domains m) ((c.sound.outside.managers k y e).manager_live m (same-manager ∙ n)) in none-some (at_slot t.domains m) z (i ∙ gone-go m (some z) i l) i)
    where
      same-manager : y.manager ≡ x.manager
      same-manager = let u : some (with_tracker [] y) ≡ some (with_tracker [] x) = ap untracked (sym e) ∙ c.less.domains k y e ∙ ap untracked f in ap (λ (v : Domain). v.manager) (some_same (some (with_tracker [] y)) _ _ refl u)

  pub gone : (k : ℕ) → Leads s.domains d k → at_slot t.domains k ≡ none
  gone k l = gone-go k (at_slot t.domains k) refl l

  -- what is above a live region is live
  climb : (j i : ℕ) (z : Region) → In t.regions i z → Below s.regions j i → (y : Region) × In t.regions j y
  climb j i z e (Below.here o) = (z, subst (λ n. In t.regions n z) o e)
  climb j i z e (Below.step p x f q b) =
      let (w, g, o) = had s t c.less i z e in
      let (y, m) = live-is (at_slot t.regions p) ((c.sound.outside.regions i z e).parent_live p (sym (ap (λ (v : Region). parent_of v.kind) o) ∙ ap (λ (v : Region). parent_of v.kind) (some_same (at_slot s.regions i) w x g f) ∙ q)) in
      climb j p y m b

  dies-go : (i : ℕ) (o : Option Region) → at_slot t.regions i ≡ o → Doomed s d i → o ≡ none
  dies-go i none e k = refl
  dies-go i (some z) e (Doomed.owned j g f l b) =
      let (y, m) = climb j i z e b in
      let (w, n, o) = had s t c.less j y m in
      let same : g.owner ≡ y.owner = ap (λ (v : Region). v.owner) (some_same (at_slot s.regions j) g w f n) ∙ ap (λ (v : Region). v.owner) o in
      let (x, u) = live-is (at_slot t.domains y.owner) (c.sound.outside.owners j y m).owner_live in
      absurd (none-some (at_slot t.domains y.owner) x (gone y.owner (subst (Leads s.domains d) same l)) u)
  dies-go i (some z) e (Doomed.named k x h f l n u b) =
      let (y, m) = climb h.slot i z e b in
      let g = eqb→eq (get_or s.region_pool.gens h.slot 0) h.generation (search and_r) in
      absurd (omega (arith, count_none (Past t) (is_revoke_of h) x.locals.held (not-revoke (Past t) h (λ p. omega (arith, p y m, c.less.region_own h.slot y m))) (c.past k x f (gone k l))))

  pub closes : Closes s d t
  closes = record {
    sound = c.sound;
    less = c.less;
    gone = gone;
    kept = c.kept;
    dead = λ i g e l. let (z, f) = live-is (at_slot t.domains g.owner) (c.sound.outside.owners i g e).owner_live in none-some (at_slot t.domains g.owner) z (gone g.owner l) f;
    dies = λ i k. dies-go i (at_slot t.regions i) refl k;
    lives = c.regions;
  }

pub close-closes : (n : ℕ) (closing : List ℕ) (s : State) → Sound s → (d : ℕ) (x : Domain) → In s.domains d x → NoRoot s d → live_domains s ≤ n → All (Closes s d) (close_domain n closing d s)
close-closes n closing s h d x e rootless enough = weaken (close-sound n closing s h d x e rootless enough) (λ t c. closes s d t c)

-- ---- 22

exists-in : {A : Type 0} (p : Option A → Bool) (l : List (Option A)) (i : ℕ) (a : A) → In l i a → T (p (some a)) → T (exists p l)
exists-in p [] i a e t = absurd (none-some none a refl e)
exists-in p (x ∷ l) zero a e t = or_l (p x) (exists p l) (subst (λ v. T (p v)) (sym e) t)
exists-in p (x ∷ l) (suc i) a e t = or_r (p x) (exists p l) (exists-in p l i a e t)

pub count-length : {A : Type 0} (p : A → Bool) (l : List A) → count_if p l ≤ length l
count-length p [] = omega arith
count-length p (x ∷ l) = omega (arith, count-length p l, one_at_most (p x))

-- the test finds every domain that is closed with d
pub closed-found : (s : State) → Sound s → (d k : ℕ) (x : Domain) → In s.domains k x → Leads s.domains d k → T (is_to_close s d k)
closed-found s h d k x e l = leads-found s.domains (ranks s h) (ranks-are s h) s.sizes.domains d k (omega (arith, ranks-low s h k x e, count-length is_some s.domains, h.outside.domains_length)) l

pub rootless : (s : State) → Sound s → (d : ℕ) → T (not (closes_root s d)) → NoRoot s d
unfolding closes_root
rootless s h d t i g e n l =
    let (x, f) = live-is (at_slot s.domains g.owner) (h.outside.owners i g e).owner_live in
    T_not (exists (root_to_close s d) s.regions) t (exists-in (root_to_close s d) s.regions i g e (and_i (is_root_kind g.kind) (is_to_close s d g.owner) n (closed-found s h d g.owner x f l)))

-- so with 3 and 22 passed the turn of the domain can begin
pub first-turn : (s : State) → Sound s → (d : ℕ) (x : Domain) → In s.domains d x → T (not (closes_root s d)) → Turn s d x
first-turn s h d x e t = record { sound = h; is = e; no_root = rootless s h d t }

-- THEOREM: what the call asks (3 and 22) is enough
pub close-after-22 : (s : State) → Sound s → (d : ℕ) (x : Domain) → In s.domains d x → T (not (closes_root s d)) → All (Closes s d) (close_domain (live_domains s) [] d s)
close-after-22 s h d x e t = close-closes (live_domains s) [] s h d x e (rootless s h d t) (omega arith)

-- ---- 23

pub exists-up : (p : ℕ → Bool) (n i k : ℕ) → i ≤ k → k < i + n → T (p k) → T (exists p (count_up i n))
exists-up p zero i k a b t = absurd (omega arith)
exists-up p (suc n) i k a b t = elim (cmp i k) [
  | lt u ↦ or_r (p i) (exists p (count_up (suc i) n)) (exists-up p n (suc i) k u (omega arith) t)
  | ge u ↦ let e : k ≡ i = omega arith in or_l (p i) (exists p (count_up (suc i) n)) (subst (λ j. T (p j)) e t)
]

-- no domain to be closed has a core map
pub not-running : (s : State) → Sound s → (d : ℕ) → T (not (closes_running s d)) → (k : ℕ) (x : Domain) → In s.domains k x → Leads s.domains d k → x.cores ≡ 0
unfolding closes_running
not-running s h d t k x e l = elim (ℕ_discrete x.cores 0) [
  | yes o ↦ o
  | no o ↦
      let n : T (not (eqb (domain_at s k).cores 0)) = rw (domain-at s k x e, ne_eqb x.cores 0 o) tt in
      let p : ℕ → Bool = λ j. not (eqb (domain_at s j).cores 0) && is_to_close s d j in
      absurd (T_not (exists p (count_up 0 s.sizes.domains)) t (exists-up p s.sizes.domains 0 k (omega arith) (omega (arith, in-length s.domains k x e, h.outside.domains_length)) (and_i (not (eqb (domain_at s k).cores 0)) (is_to_close s d k) n (closed-found s h d k x e l))))
]
