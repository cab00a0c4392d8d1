-- What a close leaves: fewer regions and domains, each as it was, child lists and trackers aside; no generation falls. So a handle that names
-- nothing live never will.
use Rattle.std.specs.Prelude.{◌≡◌, refl, ℕ, ◌≤◌, ◌<◌, Bool, true, false, not, ◌||◌, List, [], T, get_or}
use Rattle.std.proofs.Common.{ap, ◌∙◌, arith, le_refl, ltb→lt}
use Rattle.std.proofs.Math.Option.{Option, none, some}
use Rattle.base.specs.Options.{none-some}
use Rattle.model.specs.Lists.{is_some, at_slot, In}
use Rattle.model.specs.State.{State, Handle, Pool, Capa, no_capa, region, region_revoke, management, channel, Domain, Region, with_tracker, with_children}
use Rattle.model.specs.Pool.{is_live}
use Rattle.model.specs.Sound.{LiveOrOlder}
use Rattle.laws.specs.Tree.Change.{bare}
use Rattle.laws.specs.Keep.SameDomains.{untracked}
use Rattle.laws.specs.Close.Managers.{Leads, Ranked}
use Rattle.laws.specs.Close.Revoke.{Fell}

pub record Less (s t : State) : Type 0 where
  pub sizes : t.sizes ≡ s.sizes
  pub regions : (k : ℕ) (z : Region) → In t.regions k z → bare (at_slot t.regions k) ≡ bare (at_slot s.regions k)
  pub domains : (k : ℕ) (y : Domain) → In t.domains k y → untracked (at_slot t.domains k) ≡ untracked (at_slot s.domains k)
  pub region_gens : (i : ℕ) → get_or s.region_pool.gens i 0 ≤ get_or t.region_pool.gens i 0
  pub domain_gens : (i : ℕ) → get_or s.domain_pool.gens i 0 ≤ get_or t.domain_pool.gens i 0
  -- whoever is left has its own generation
  pub region_own : (k : ℕ) (z : Region) → In t.regions k z → get_or t.region_pool.gens k 0 ≡ get_or s.region_pool.gens k 0
  pub domain_own : (k : ℕ) (y : Domain) → In t.domains k y → get_or t.domain_pool.gens k 0 ≡ get_or s.domain_pool.gens k 0
  -- where somebody has gone the generation has risen
  pub region_freed : (k : ℕ) (w : Region) → In s.regions k w → at_slot t.regions k ≡ none → get_or s.region_pool.gens k 0 < get_or t.region_pool.gens k 0
  pub domain_freed : (k : ℕ) (x : Domain) → In s.domains k x → at_slot t.domains k ≡ none → get_or s.domain_pool.gens k 0 < get_or t.domain_pool.gens k 0

-- whoever is as it was was there
pub region-was : (o p : Option Region) (z : Region) → bare o ≡ bare p → o ≡ some z → (w : Region) × (p ≡ some w) × (with_children [] w ≡ with_children [] z)
region-was o none z b e = absurd (none-some (bare o) (with_children [] z) b (ap bare e))
region-was o (some w) z b e = (w, refl, let u : bare o ≡ some (with_children [] z) = ap bare e in cc)

pub domain-was : (o p : Option Domain) (y : Domain) → untracked o ≡ untracked p → o ≡ some y → (x : Domain) × (p ≡ some x) × (with_tracker [] x ≡ with_tracker [] y)
domain-was o none y b e = absurd (none-some (untracked o) (with_tracker [] y) b (ap untracked e))
domain-was o (some x) y b e = (x, refl, let u : untracked o ≡ some (with_tracker [] y) = ap untracked e in cc)

pub less-self : (s : State) → Less s s
less-self s = record { sizes = refl; regions = λ k z e. refl; domains = λ k y e. refl; region_gens = λ i. le_refl _; domain_gens = λ i. le_refl _; region_own = λ k z e. refl; domain_own = λ k y e. refl; region_freed = λ k w e n. absurd (none-some (at_slot s.regions k) w n e); domain_freed = λ k x e n. absurd (none-some (at_slot s.domains k) x n e) }

-- in two steps: gone in the first, or in the second
by-slot : {A : Type 0} {P : Type 0} (o : Option A) → (o ≡ none → P) → ((a : A) → o ≡ some a → P) → P
by-slot none f g = f refl
by-slot (some a) f g = g a refl

pub less_then : (s t u : State) → Less s t → Less t u → Less s u
less_then s t u a b = record {
  sizes = b.sizes ∙ a.sizes;
  regions = λ k z e. let w = region-was (at_slot u.regions k) (at_slot t.regions k) z (b.regions k z e) e in b.regions k z e ∙ a.regions k w.0 w.1;
  domains = λ k y e. let w = domain-was (at_slot u.domains k) (at_slot t.domains k) y (b.domains k y e) e in b.domains k y e ∙ a.domains k w.0 w.1;
  region_gens = λ i. omega (arith, a.region_gens i, b.region_gens i);
  domain_gens = λ i. omega (arith, a.domain_gens i, b.domain_gens i);
  region_own = λ k z e. let w = region-was (at_slot u.regions k) (at_slot t.regions k) z (b.regions k z e) e in b.region_own k z e ∙ a.region_own k w.0 w.1;
  domain_own = λ k y e. let w = domain-was (at_slot u.domains k) (at_slot t.domains k) y (b.domains k y e) e in b.domain_own k y e ∙ a.domain_own k w.0 w.1;
  region_freed = λ k w e n. by-slot (at_slot t.regions k) (λ m. omega (arith, a.region_freed k w e m, b.region_gens k)) (λ z m. omega (arith, b.region_freed k z m n, a.region_gens k));
  domain_freed = λ k x e n. by-slot (at_slot t.domains k) (λ m. omega (arith, a.domain_freed k x e m, b.domain_gens k)) (λ y m. omega (arith, b.domain_freed k y m n, a.domain_gens k));
}

pub fell-less : (s t : State) (i : ℕ) → Fell s i t → Less s t
fell-less s t i f = record {
  sizes = f.same_domains.sizes;
  regions = f.revoked.left;
  domains = λ k y e. f.same_domains.domains k;
  region_gens = f.generations.rise;
  domain_gens = λ j. omega (arith, ap (λ (p : Pool). get_or p.gens j 0) f.same_domains.domain_pool);
  region_own = λ k z e. f.generations.kept k (ap is_some e);
  domain_own = λ k y e. ap (λ (p : Pool). get_or p.gens k 0) f.same_domains.domain_pool;
  region_freed = λ k w e n. f.generations.freed k (ap is_some e) (ap is_some n);
  domain_freed = λ k x e n. absurd (none-some (untracked (at_slot t.domains k)) (with_tracker [] x) (ap untracked n) (f.same_domains.domains k ∙ ap untracked e));
}

-- ---- the managers of whoever is left are as they were

module _ (s t : State) (l : Less s t) where
  pub was : (k : ℕ) (y : Domain) → In t.domains k y → (x : Domain) × In s.domains k x × (with_tracker [] x ≡ with_tracker [] y)
  was k y e = domain-was (at_slot t.domains k) (at_slot s.domains k) y (l.domains k y e) e

  pub had : (k : ℕ) (z : Region) → In t.regions k z → (w : Region) × In s.regions k w × (with_children [] w ≡ with_children [] z)
  had k z e = region-was (at_slot t.regions k) (at_slot s.regions k) z (l.regions k z e) e

  pub leads-less : (d k : ℕ) → Leads t.domains d k → Leads s.domains d k
  leads-less d k (Leads.here o) = Leads.here o
  leads-less d k (Leads.step m y e n b) = let (x, f, q) = was k y e in Leads.step m x f (ap (λ (z : Domain). z.manager) q ∙ n) (leads-less d m b)

  pub ranked-less : (r : ℕ → ℕ) → Ranked s.domains r → Ranked t.domains r
  ranked-less r q = record {
    root = λ k y e n. let (x, f, p) = was k y e in q.root k x f (ap (λ (z : Domain). z.manager) p ∙ n);
    child = λ k m y e n. let (x, f, p) = was k y e in q.child k m x f (ap (λ (z : Domain). z.manager) p ∙ n);
  }

-- ---- handles to what is gone

-- whatever is in its slot is younger
abbrev pub Old : {A : Type 0} → Pool → List (Option A) → Handle → Type 0
Old {A} p l h = (a : A) → In l h.slot a → h.generation < get_or p.gens h.slot 0

or-second : (a b : Bool) → T (a || b) → T (not a) → T b
or-second true b t n = absurd n
or-second false b t n = t

pub dead-old : {A : Type 0} (p : Pool) (l : List (Option A)) (h : Handle) → LiveOrOlder p l h → T (not (is_live p l h)) → Old p l h
dead-old p l h t n a e = ltb→lt h.generation (get_or p.gens h.slot 0) (or-second (is_live p l h) _ t n)

pub gone_old : {A : Type 0} (p : Pool) (l : List (Option A)) (h : Handle) → at_slot l h.slot ≡ none → Old p l h
gone_old p l h n a e = absurd (none-some (at_slot l h.slot) a n e)

-- a slot that has had its turn
abbrev pub Past : State → Option Capa → Type 0
Past t none = Unit {0}
Past t (some no_capa) = Unit {0}
Past t (some (region h)) = Old t.region_pool t.regions h
Past t (some (region_revoke h)) = Old t.region_pool t.regions h
Past t (some (management h)) = Old t.domain_pool t.domains h
Past t (some (channel h)) = Unit {0}

module _ (s t : State) (l : Less s t) where
  region-on : (h : Handle) → Old s.region_pool s.regions h → Old t.region_pool t.regions h
  region-on h o a e = let w = had s t l h.slot a e in omega (arith, o w.0 w.1, l.region_gens h.slot)

  pub past-on : (c : Option Capa) → Past s c → Past t c
  past-on none o = tt
  past-on (some no_capa) o = tt
  past-on (some (region h)) o = region-on h o
  past-on (some (region_revoke h)) o = region-on h o
  past-on (some (management h)) o = λ a e. let w = was s t l h.slot a e in omega (arith, o w.0 w.1, l.domain_gens h.slot)
  past-on (some (channel h)) o = tt
