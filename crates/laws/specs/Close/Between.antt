-- What is known between two slots of a closing domain, and after its turn. Every state between two slots is sound. When all slots have had their turn
-- no live region is the domain's and no live domain has it for manager, so that its tracker is empty and its slot may be freed.
use Rattle.std.specs.Prelude.{◌≡◌, refl, ◌≢◌, ℕ, suc, ◌<◌, Bool, List, [], ◌∷◌, T, length, get_or}
use Rattle.std.proofs.Common.{sym, ap, subst, ◌∙◌, arith, le_refl, get_or-set_same, get_or-set_other, eq-eqb, ne_eqb}
use Rattle.std.proofs.Math.Option.{Option, none, some}
use Rattle.std.proofs.Math.Decide.{ℕ_discrete}
use Rattle.base.specs.Options.{none-some, some_same}
use Rattle.model.specs.Lists.{one_if, Each, at_slot, In}
use Rattle.model.specs.State.{State, Capa, LocalList, Record, Domain, Region, with_tracker}
use Rattle.model.specs.Pool.{handle_of}
use Rattle.model.specs.Tree.{is_root_kind}
use Rattle.model.specs.Fields.{Field}
use Rattle.model.specs.Counts.{tally, region_count}
use Rattle.model.specs.Sound.{Sound, TrackerSound, names, is_region_of, is_management_of}
use Rattle.model.specs.Closing.{free_domain}
use Rattle.laws.specs.Accepted.{All, weaken}
use Rattle.laws.specs.Lists.{each_weaken}
use Rattle.laws.specs.Tree.Slots.{in-length}
use Rattle.laws.specs.Tree.Change.{bare}
use Rattle.laws.specs.Capas.Slots.{count_none}
use Rattle.laws.specs.Capas.Live.{not-region, not-management}
use Rattle.laws.specs.Keep.SameDomains.{untracked}
use Rattle.laws.specs.Close.FreeDomain.{Idle, free-domain-sound}
use Rattle.laws.specs.Close.Managers.{Leads}
use Rattle.laws.specs.Close.Less.{Less, less_then, domain-was, Past, past-on}
use Rattle.laws.specs.Close.Doomed.{Doomed}

-- no domain to be closed holds a root (22)
abbrev pub NoRoot : State → ℕ → Type 0
NoRoot s d = (i : ℕ) (g : Region) → In s.regions i g → T (is_root_kind g.kind) → Leads s.domains d g.owner → ⊥

-- after the turn of domain d, which began in s
pub record Closed (s : State) (d : ℕ) (t : State) : Type 0 where
  pub sound : Sound t
  pub less : Less s t
  pub free : at_slot t.domains d ≡ none
  pub kept : (k : ℕ) → (Leads s.domains d k → ⊥) → untracked (at_slot t.domains k) ≡ untracked (at_slot s.domains k)
  -- whoever is gone has had all its slots revoked
  pub past : (k : ℕ) (x : Domain) → In s.domains k x → at_slot t.domains k ≡ none → Each (Past t) x.locals.held
  pub regions : (i : ℕ) → (Doomed s d i → ⊥) → bare (at_slot t.regions i) ≡ bare (at_slot s.regions i)

-- between two slots of domain d, whose turn began in s: the domain itself is there, with its list
pub record Between (s : State) (d : ℕ) (t : State) : Type 0 where
  pub sound : Sound t
  pub less : Less s t
  pub kept : (k : ℕ) → (k ≢ d → Leads s.domains d k → ⊥) → untracked (at_slot t.domains k) ≡ untracked (at_slot s.domains k)
  pub past : (k : ℕ) (x : Domain) → In s.domains k x → at_slot t.domains k ≡ none → Each (Past t) x.locals.held
  pub regions : (i : ℕ) → (Doomed s d i → ⊥) → bare (at_slot t.regions i) ≡ bare (at_slot s.regions i)

-- slots that have had their turn, later
pub pasts-on : (s t : State) → Less s t → (l : List (Option Capa)) → Each (Past s) l → Each (Past t) l
pasts-on s t l cs h = each_weaken (Past s) (Past t) cs (past-on s t l) h

-- the domain in its own slot, but for its tracker
pub still-there : (s : State) (d : ℕ) (x : Domain) → In s.domains d x → (t : State) → Between s d t → (y : Domain) × In t.domains d y × (with_tracker [] y ≡ with_tracker [] x)
still-there s d x e t b = domain-was (at_slot s.domains d) (at_slot t.domains d) x (sym (b.kept d (λ o l. o refl))) e

-- ---- a domain that owns nothing has an empty tracker

tally-none : (rs : List (Option Region)) (d a : ℕ) (t : ℕ → Bool) (i : ℕ) (l : List (Option Region)) → ((j : ℕ) (g : Region) → In l j g → g.owner ≢ d) → tally rs d a t i l ≡ 0
tally-none rs d a t i [] h = refl
tally-none rs d a t i (none ∷ l) h = tally-none rs d a t (suc i) l (λ j g e. h (suc j) g e)
tally-none rs d a t i (some g ∷ l) h = rw (ne_eqb g.owner d (h 0 g refl)) (omega (arith, tally-none rs d a t (suc i) l (λ j v e. h (suc j) v e)))

tracker-empty : (rs : List (Option Region)) (d : ℕ) (l : List Record) → TrackerSound rs d l → ((j : ℕ) (g : Region) → In rs j g → g.owner ≢ d) → l ≡ []
tracker-empty rs d [] h n = refl
tracker-empty rs d (q ∷ l) h n = absurd (omega (arith, h.counted.0 q.start (le_refl _) h.rising.1 Field.Reach, h.reached.0, none))
  where
    none : region_count Field.Reach rs d q.start ≡ 0
    none = tally-none rs d q.start _ 0 rs n

-- ---- all slots have had their turn

module _ (s : State) (d : ℕ) (x : Domain) (e : In s.domains d x) (t : State) (b : Between s d t) (past : Each (Past t) x.locals.held) where
  there : (y : Domain) × In t.domains d y × (with_tracker [] y ≡ with_tracker [] x)
  there = still-there s d x e t b

  past-here : Each (Past t) there.0.locals.held
  past-here = subst (λ (l : LocalList). Each (Past t) l.held) (sym (ap (λ (z : Domain). z.locals) there.2)) past

  no-region : (i : ℕ) (g : Region) → In t.regions i g → g.owner ≢ d
  no-region i g f o = omega (
    arith,
    (b.sound.outside.owners i g f).one_slot d there.0 there.1,
    ap one_if (eq-eqb g.owner d o),
    count_none (Past t) (is_region_of (handle_of t.region_pool i)) there.0.locals.held (not-region (Past t) (handle_of t.region_pool i) (λ p. omega (arith, p g f))) past-here,
  )

  no-domain : (k : ℕ) (y : Domain) → In t.domains k y → y.manager ≢ some d
  no-domain k y f o = omega (
    arith,
    (b.sound.outside.managers k y f).one_management d there.0 there.1,
    ap (λ (m : Option ℕ). one_if (names m d)) o,
    ap one_if (eq-eqb d d refl),
    count_none (Past t) (is_management_of (handle_of t.domain_pool k)) there.0.locals.held (not-management (Past t) (handle_of t.domain_pool k) (λ p. omega (arith, p y f))) past-here,
  )

  idle-there : Idle t d there.0
  idle-there = record { is = there.1; no_region = no-region; no_domain = no-domain; no_record = tracker-empty t.regions d there.0.tracker (b.sound.tracked.trackers d there.0 there.1) no-region }

  pub idle : (y : Domain) → In t.domains d y → Idle t d y
  idle y f = subst (Idle t d) (some_same (at_slot t.domains d) there.0 y there.1 f) idle-there

  low : d < length t.domains
  low = in-length t.domains d there.0 there.1

  low-gen : d < length t.domain_pool.gens
  low-gen = omega (arith, b.sound.outside.domain_pool.gens_length, b.sound.outside.domains_length, low)

  -- and the domain goes
  pub freed-last : All (Closed s d) (free_domain d t)
  freed-last = weaken (free-domain-sound t b.sound d there.0 idle-there) (λ u (h, o, r).
      let gone : at_slot u.domains d ≡ none = ap (λ (v : State). at_slot v.domains d) o ∙ get_or-set_same t.domains d none none low in
      let other : (k : ℕ) → k ≢ d → at_slot u.domains k ≡ at_slot t.domains k = λ k n. ap (λ (v : State). at_slot v.domains k) o ∙ get_or-set_other t.domains d k none none n in
      let not-here : (k : ℕ) (y : Domain) → In u.domains k y → k ≢ d = λ k y f m. none-some (at_slot u.domains d) y gone (subst (λ n. In u.domains n y) m f) in
      let raised : get_or t.domain_pool.gens d 0 < get_or u.domain_pool.gens d 0 = omega (arith, ap (λ (v : State). get_or v.domain_pool.gens d 0) o, get_or-set_same t.domain_pool.gens d (suc (get_or t.domain_pool.gens d 0)) 0 low-gen) in
      let l : Less t u = record {
        sizes = ap (λ (v : State). v.sizes) o;
        regions = λ k z f. ap (λ (v : State). bare (at_slot v.regions k)) o;
        domains = λ k y f. ap untracked (other k (not-here k y f));
        region_gens = λ i. omega (arith, ap (λ (v : State). get_or v.region_pool.gens i 0) o);
        domain_gens = r;
        region_own = λ k z f. ap (λ (v : State). get_or v.region_pool.gens k 0) o;
        domain_own = λ k y f. ap (λ (v : State). get_or v.domain_pool.gens k 0) o ∙ get_or-set_other t.domain_pool.gens d k _ 0 (not-here k y f);
        region_freed = λ k w f n. absurd (none-some (at_slot u.regions k) w n (ap (λ (v : State). at_slot v.regions k) o ∙ f));
        domain_freed = λ k y f n. elim (ℕ_discrete k d) [
          | yes m ↦ rw m raised
          | no m ↦ absurd (none-some (at_slot t.domains k) y (sym (other k m) ∙ n) f)
        ];
      } in
      record {
        sound = h;
        less = less_then s t u b.less l;
        free = gone;
        kept = λ k n. ap untracked (other k (λ m. n (Leads.here m))) ∙ b.kept k (λ m. n);
        past = λ k y f z. elim (ℕ_discrete k d) [
          | yes m ↦ pasts-on t u l y.locals.held (subst (λ (v : Domain). Each (Past t) v.locals.held) (some_same (at_slot s.domains d) x y e (subst (λ n. In s.domains n y) m f)) past)
          | no m ↦ pasts-on t u l y.locals.held (b.past k y f (sym (other k m) ∙ z))
        ];
        regions = λ i n. ap (λ (v : State). bare (at_slot v.regions i)) o ∙ b.regions i n;
      })
