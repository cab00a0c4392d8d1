-- Induction along a close. `C n closing s d x` is what is to be shown of `close_domain n closing d s`, where domain d is x; `S n closing s d x u k cs` what is
-- to be shown of the rest of its turn, `rest_of n closing d cs u`: the turn began in s, the first k slots are done, cs are left, and the tables are u.
-- The steps (`Steps`) give at each slot what is known there: the tables between two slots are sound, the closing domain is live and has the list that it
-- had (`Visit`, with `still-there` of Between), a region that is revoked is live and no root, a domain that is closed in turn is d's, and a domain that is
-- freed is `Idle`. A property of one run is `close-keeps`; where it holds of any tables `close-any` (AnyTables) asks less.
-- For two runs side by side take for C and S "for every other state that is related to s (to u) the two outcomes are related", as Fuel does: the model's
-- run is followed by `close-begins` and `rest-..` below, the other by its own equations; where the revoke of a region, or the close in turn, is accepted with
-- t, the last premise of `revokes` and `closes` goes on from t, and the premise `All ..` before it says what t is.
use Rattle.std.specs.Prelude.{◌≡◌, ℕ, zero, suc, ◌≤◌, Bool, true, false, not, List, [], ◌∷◌, T}
use Rattle.std.proofs.Math.Path.{refl}
use Rattle.std.proofs.Common.{sym, ap, subst, ◌∙◌}
use Rattle.std.proofs.Math.Option.{Option, none, some}
use Rattle.base.specs.Tests.{is_true, is_false}
use Rattle.model.specs.Lists.{In}
use Rattle.model.specs.Outcome.{Outcome, ok, refuse, ◌>>=◌}
use Rattle.model.specs.State.{State, Handle, Capa, no_capa, region, region_revoke, management, channel, Domain, Region, parent_of}
use Rattle.model.specs.Pool.{is_live}
use Rattle.model.specs.Sound.{Sound}
use Rattle.model.specs.Regions.{revoke_region, live_count}
use Rattle.model.specs.Closing.{free_domain, revoke_live, revoke_slot, revoke_slots, close_domain, live_domains}
use Rattle.laws.specs.Accepted.{All, refused, all-ok}
use Rattle.laws.specs.Lists.{take_all}
use Rattle.laws.specs.Tree.Steps.{domain-at}
use Rattle.laws.specs.Close.FreeDomain.{Idle}
use Rattle.laws.specs.Close.Revoke.{Fell, revoke-sound}
use Rattle.laws.specs.Close.Less.{Past, dead-old}
use Rattle.laws.specs.Close.Between.{Closed, still-there, idle}
use Rattle.laws.specs.Close.Visit.{Turn, Visit, first-visit, fit, passed, RegionNamed, region-named, revoke-named, DomainNamed, domain-named}
use Rattle.laws.specs.Close.Close.{Enough, enough-first, not-zero, enough-further, Ok, ok-all}

-- ---- the rest of a turn, step by step

abbrev pub rest_of : ℕ → List ℕ → ℕ → List (Option Capa) → State → Outcome State
rest_of n closing d cs u = revoke_slots (revoke_slot (close_domain n closing) closing) cs u >>= λ t. free_domain d t

-- nothing is done at this slot
abbrev pub Passes : State → Option Capa → Type 0
Passes u none = Unit {0}
Passes u (some no_capa) = Unit {0}
Passes u (some (region h)) = T (not (is_live u.region_pool u.regions h))
Passes u (some (region_revoke h)) = T (not (is_live u.region_pool u.regions h))
Passes u (some (management h)) = T (not (is_live u.domain_pool u.domains h))
Passes u (some (channel h)) = Unit {0}

-- this slot names the region with handle h
pub data Names (h : Handle) : Option Capa → Type 0 where
  by_region : Names h (some (region h))
  by_revoke : Names h (some (region_revoke h))

bind-twice : {A B D : Type 0} (m : Outcome A) (f : A → Outcome B) (g : B → Outcome D) → ((m >>= f) >>= g) ≡ (m >>= λ a. f a >>= g)
unfolding ◌>>=◌
bind-twice (ok a) f g = refl
bind-twice (refuse r) f g = refl

bind_ok : {A B : Type 0} (a : A) (f : A → Outcome B) → (ok a >>= f) ≡ f a
unfolding ◌>>=◌
bind_ok a f = refl

module _ (n : ℕ) (closing : List ℕ) (d : ℕ) where
  abbrev one : Option Capa → State → Outcome State
  one = revoke_slot (close_domain n closing) closing

  pub rest-free : (u : State) → rest_of n closing d [] u ≡ free_domain d u
  unfolding revoke_slots
  rest-free u = bind_ok u (λ t. free_domain d t)

  -- one slot, and the rest
  rest-slot : (c : Option Capa) (cs : List (Option Capa)) (u : State) → rest_of n closing d (c ∷ cs) u ≡ (one c u >>= λ t. rest_of n closing d cs t)
  unfolding revoke_slots
  rest-slot c cs u = bind-twice (one c u) (λ t. revoke_slots one cs t) (λ t. free_domain d t)

  pass-slot : (c : Option Capa) (u : State) → Passes u c → one c u ≡ ok u
  unfolding revoke_slot revoke_live
  pass-slot none u p = refl
  pass-slot (some no_capa) u p = refl
  pass-slot (some (region h)) u p = rw (is_false {b = is_live u.region_pool u.regions h} p)
  pass-slot (some (region_revoke h)) u p = rw (is_false {b = is_live u.region_pool u.regions h} p)
  pass-slot (some (management h)) u p = rw (is_false {b = is_live u.domain_pool u.domains h} p)
  pass-slot (some (channel h)) u p = refl

  pub rest-passes : (c : Option Capa) (cs : List (Option Capa)) (u : State) → Passes u c → rest_of n closing d (c ∷ cs) u ≡ rest_of n closing d cs u
  rest-passes c cs u p = rest-slot c cs u ∙ ap (λ m. m >>= λ t. rest_of n closing d cs t) (pass-slot c u p) ∙ bind_ok u (λ t. rest_of n closing d cs t)

  revoke-slot : (h : Handle) (c : Option Capa) (u : State) → Names h c → T (is_live u.region_pool u.regions h) → one c u ≡ revoke_region closing (live_count u) h.slot u
  unfolding revoke_slot revoke_live
  revoke-slot h _ u by_region l = rw (is_true {b = is_live u.region_pool u.regions h} l)
  revoke-slot h _ u by_revoke l = rw (is_true {b = is_live u.region_pool u.regions h} l)

  pub rest-revokes : (h : Handle) (c : Option Capa) (cs : List (Option Capa)) (u : State) → Names h c → T (is_live u.region_pool u.regions h) → rest_of n closing d (c ∷ cs) u ≡ (revoke_region closing (live_count u) h.slot u >>= λ t. rest_of n closing d cs t)
  rest-revokes h c cs u q l = rest-slot c cs u ∙ ap (λ m. m >>= λ t. rest_of n closing d cs t) (revoke-slot h c u q l)

  close-slot : (h : Handle) (u : State) → T (is_live u.domain_pool u.domains h) → one (some (management h)) u ≡ close_domain n closing h.slot u
  unfolding revoke_slot
  close-slot h u l = rw (is_true {b = is_live u.domain_pool u.domains h} l)

  pub rest-closes : (h : Handle) (cs : List (Option Capa)) (u : State) → T (is_live u.domain_pool u.domains h) → rest_of n closing d (some (management h) ∷ cs) u ≡ (close_domain n closing h.slot u >>= λ t. rest_of n closing d cs t)
  rest-closes h cs u l = rest-slot (some (management h)) cs u ∙ ap (λ m. m >>= λ t. rest_of n closing d cs t) (close-slot h u l)

pub close-begins : (n : ℕ) (closing : List ℕ) (d : ℕ) (s : State) (x : Domain) → In s.domains d x → close_domain (suc n) closing d s ≡ rest_of n (d ∷ closing) d x.locals.held s
unfolding close_domain
close-begins n closing d s x e = rw (domain-at s d x e)

-- ---- the induction

abbrev pub OfClose : Type 1
OfClose = ℕ → List ℕ → State → ℕ → Domain → Type 0

abbrev pub OfRest : Type 1
OfRest = ℕ → List ℕ → State → ℕ → Domain → State → ℕ → List (Option Capa) → Type 0

pub record Steps (C : OfClose) (S : OfRest) : Type 0 where
  -- the turn of domain d begins; it is closing from then on
  pub begins : (n : ℕ) (closing : List ℕ) (s : State) (d : ℕ) (x : Domain) → Turn s d x → S n (d ∷ closing) s d x s 0 x.locals.held → C (suc n) closing s d x
  pub passes : (n : ℕ) (closing : List ℕ) (s : State) (d : ℕ) (x : Domain) (u : State) (k : ℕ) (c : Option Capa) (cs : List (Option Capa)) → Visit s d x u k (c ∷ cs) → Passes u c
      → S n closing s d x u (suc k) cs → S n closing s d x u k (c ∷ cs)
  pub revokes : (n : ℕ) (closing : List ℕ) (s : State) (d : ℕ) (x : Domain) (u : State) (k : ℕ) (c : Option Capa) (cs : List (Option Capa)) → Visit s d x u k (c ∷ cs)
      → (h : Handle) → Names h c → T (is_live u.region_pool u.regions h) → (p : ℕ) (g : Region) → In u.regions h.slot g → parent_of g.kind ≡ some p → All (Fell u h.slot) (revoke_region closing (live_count u) h.slot u)
      → ((t : State) → revoke_region closing (live_count u) h.slot u ≡ ok t → S n closing s d x t (suc k) cs) → S n closing s d x u k (c ∷ cs)
  pub closes : (n : ℕ) (closing : List ℕ) (s : State) (d : ℕ) (x : Domain) (u : State) (k : ℕ) (h : Handle) (cs : List (Option Capa)) → Visit s d x u k (some (management h) ∷ cs)
      → T (is_live u.domain_pool u.domains h) → (z : Domain) → Turn u h.slot z → z.manager ≡ some d → All (Closed u h.slot) (close_domain n closing h.slot u) → C n closing u h.slot z
      → ((t : State) → close_domain n closing h.slot u ≡ ok t → S n closing s d x t (suc k) cs) → S n closing s d x u k (some (management h) ∷ cs)
  -- the last slot has had its turn
  pub frees : (n : ℕ) (closing : List ℕ) (s : State) (d : ℕ) (x : Domain) (u : State) (k : ℕ) → Visit s d x u k [] → (y : Domain) → Idle u d y → S n closing s d x u k []

by-test : {A : Type 0} (b : Bool) → (T b → A) → (T (not b) → A) → A
by-test true f g = f tt
by-test false f g = g tt

module _ (C : OfClose) (S : OfRest) (steps : Steps C S) where
  unfoldable pub OkFor : ℕ → Type 0
  OkFor n = (closing : List ℕ) (s : State) (d : ℕ) (x : Domain) → Turn s d x → Enough n s d → C n closing s d x

  module _ (n : ℕ) (one : OkFor n) (closing : List ℕ) (s : State) (d : ℕ) (x : Domain) (enough : Enough (suc n) s d) where
    abbrev Rest : State → ℕ → List (Option Capa) → Type 0
    Rest u k cs = S n closing s d x u k cs

    -- the slots after this one
    abbrev On : ℕ → List (Option Capa) → Type 0
    On k cs = (t : State) → Visit s d x t (suc k) cs → Rest t (suc k) cs

    pass : (u : State) (k : ℕ) (c : Option Capa) (cs : List (Option Capa)) → On k cs → Visit s d x u k (c ∷ cs) → Passes u c → Past u c → Rest u k (c ∷ cs)
    pass u k c cs on v p q = steps.passes n closing s d x u k c cs v p (on u (passed s d x u k c cs v q))

    revoke : (u : State) (k : ℕ) (c : Option Capa) (cs : List (Option Capa)) → On k cs → Visit s d x u k (c ∷ cs) → (h : Handle) → Names h c → T (is_live u.region_pool u.regions h) → RegionNamed s d x u k cs h → Rest u k (c ∷ cs)
    revoke u k c cs on v h q l r =
        let fell = revoke-sound closing u v.between.sound h.slot r.parent r.region r.is r.under in
        steps.revokes n closing s d x u k c cs v h q l r.parent r.region r.is r.under fell (λ t o. on t (r.next t (all-ok (Fell u h.slot) _ t fell o)))

    close : (u : State) (k : ℕ) (h : Handle) (cs : List (Option Capa)) → On k cs → Visit s d x u k (some (management h) ∷ cs) → T (is_live u.domain_pool u.domains h) → DomainNamed s d x u k cs h → Rest u k (some (management h) ∷ cs)
    unfolding Ok OkFor
    close u k h cs on v l z =
        let less = enough-further s u v.between.less n d h.slot z.domain z.turn.is z.managed enough in
        let closed = ok-all n closing u h.slot z.domain z.turn less in
        steps.closes n closing s d x u k h cs v l z.domain z.turn z.managed closed (one closing u h.slot z.domain z.turn less) (λ t o. on t (z.next t (all-ok (Closed u h.slot) _ t closed o)))

    slot : (u : State) (k : ℕ) (c : Option Capa) (cs : List (Option Capa)) → On k cs → Visit s d x u k (c ∷ cs) → Rest u k (c ∷ cs)
    slot u k none cs on v = pass u k none cs on v tt tt
    slot u k (some no_capa) cs on v = pass u k (some no_capa) cs on v tt tt
    slot u k (some (region h)) cs on v = by-test (is_live u.region_pool u.regions h)
        (λ l. revoke u k (some (region h)) cs on v h by_region l (region-named s d x u k h cs v l))
        (λ l. pass u k (some (region h)) cs on v l (dead-old u.region_pool u.regions h (fit s d x u k (some (region h)) cs v) l))
    slot u k (some (region_revoke h)) cs on v = by-test (is_live u.region_pool u.regions h)
        (λ l. revoke u k (some (region_revoke h)) cs on v h by_revoke l (revoke-named s d x u k h cs v l))
        (λ l. pass u k (some (region_revoke h)) cs on v l (dead-old u.region_pool u.regions h (fit s d x u k (some (region_revoke h)) cs v) l))
    slot u k (some (management h)) cs on v = by-test (is_live u.domain_pool u.domains h)
        (λ l. close u k h cs on v l (domain-named s d x u k h cs v l))
        (λ l. pass u k (some (management h)) cs on v l (dead-old u.domain_pool u.domains h (fit s d x u k (some (management h)) cs v) l))
    slot u k (some (channel h)) cs on v = pass u k (some (channel h)) cs on v tt tt

    free : (u : State) (k : ℕ) → Visit s d x u k [] → Rest u k []
    free u k v =
        let (y, f, q) = still-there s d x v.turn.is u v.between in
        steps.frees n closing s d x u k v y (idle s d x v.turn.is u v.between (take_all (Past u) k x.locals.held v.left v.past) y f)

    slots : (cs : List (Option Capa)) (u : State) (k : ℕ) → Visit s d x u k cs → Rest u k cs
    slots [] u k v = free u k v
    slots (c ∷ cs) u k v = slot u k c cs (λ t w. slots cs t (suc k) w) v

  ok-zero : OkFor 0
  unfolding OkFor
  ok-zero closing s d x b enough = absurd (not-zero s d x b.is enough)

  ok-suc : (n : ℕ) → OkFor n → OkFor (suc n)
  unfolding OkFor
  ok-suc n one closing s d x b enough = steps.begins n closing s d x b (slots n one (d ∷ closing) s d x enough x.locals.held s 0 (first-visit s d x b))

  ok-each : (n : ℕ) → OkFor n
  ok-each zero = ok-zero
  ok-each (suc n) = ok-suc n (ok-each n)

  -- THEOREM: from sound tables, where no domain to be closed holds a root, with n at least the number of live domains
  pub close-all : (n : ℕ) (closing : List ℕ) (s : State) (d : ℕ) (x : Domain) → Turn s d x → live_domains s ≤ n → C n closing s d x
  unfolding OkFor
  close-all n closing s d x b enough = ok-each n closing s d x b (enough-first s b.sound n d enough)

-- ---- a property of one run

pub bind-on : {A B : Type 0} {Q : B → Type 0} (m : Outcome A) {f : A → Outcome B} → ((a : A) → m ≡ ok a → All Q (f a)) → All Q (m >>= f)
unfolding ◌>>=◌
bind-on (ok a) k = k a refl
bind-on (refuse r) k = refused

-- P is kept by a revoke inside a close, and where an idle domain is freed
module _ (P : State → Type 0)
    (revoked : (closing : List ℕ) (u : State) → Sound u → P u → (i p : ℕ) (g : Region) → In u.regions i g → parent_of g.kind ≡ some p → All P (revoke_region closing (live_count u) i u))
    (freed : (u : State) → Sound u → P u → (d : ℕ) (x : Domain) → Idle u d x → All P (free_domain d u)) where
  abbrev AfterClose : OfClose
  AfterClose n closing s d x = P s → All P (close_domain n closing d s)

  abbrev AfterRest : OfRest
  AfterRest n closing s d x u k cs = P u → All P (rest_of n closing d cs u)

  keep-steps : Steps AfterClose AfterRest
  keep-steps = record {
    begins = λ n closing s d x b r h. subst (All P) (sym (close-begins n closing d s x b.is)) (r h);
    passes = λ n closing s d x u k c cs v p r h. subst (All P) (sym (rest-passes n closing d c cs u p)) (r h);
    revokes = λ n closing s d x u k c cs v i q l p g e m fell r h.
        let one = revoked closing u v.between.sound h i.slot p g e m in
        subst (All P) (sym (rest-revokes n closing d i c cs u q l)) (bind-on (revoke_region closing (live_count u) i.slot u) (λ t o. r t o (all-ok P _ t one o)));
    closes = λ n closing s d x u k i cs v l z b m closed one r h.
        subst (All P) (sym (rest-closes n closing d i cs u l)) (bind-on (close_domain n closing i.slot u) (λ t o. r t o (all-ok P _ t (one h) o)));
    frees = λ n closing s d x u k v y i h. subst (All P) (sym (rest-free n closing d u)) (freed u v.between.sound h d y i);
  }

  pub close-keeps : (n : ℕ) (closing : List ℕ) (s : State) (d : ℕ) (x : Domain) → Turn s d x → live_domains s ≤ n → P s → All P (close_domain n closing d s)
  close-keeps = close-all AfterClose AfterRest keep-steps
