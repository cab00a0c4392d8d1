-- A close keeps the tables sound and closes the domain. Measure: n falls by one as the rank among the managers rises by one, and no rank reaches the
-- number of live domains, so that the equation of `close_domain` for 0 is never reached.
use Rattle.std.specs.Prelude.{◌≡◌, ℕ, zero, suc, ◌+◌, ◌≤◌, ◌<◌, T}
use Rattle.std.proofs.Math.Option.{Option, none, some}
use mathlib.Core.List.{List, [], ◌∷◌}
use Rattle.std.proofs.Common.{arith}
use Rattle.model.specs.Lists.{In}
use Rattle.model.specs.State.{State, Handle, Capa, no_capa, region, region_revoke, management, channel, Domain}
use Rattle.model.specs.Pool.{is_live}
use Rattle.model.specs.Sound.{Sound, LiveOrOlder}
use Rattle.model.specs.Closing.{revoke_live, revoke_slot, revoke_slots, close_domain, live_domains}
use Rattle.laws.specs.Accepted.{All, accepted, bind, weaken, branch-on}
use Rattle.laws.specs.Lists.{take_all}
use Rattle.laws.specs.Tree.Steps.{domain-at}
use Rattle.laws.specs.Close.Managers.{Ranked, ranks, ranks-are, ranks-low}
use Rattle.laws.specs.Close.Revoke.{revoke-sound}
use Rattle.laws.specs.Close.Less.{Less, was, ranked-less, Old, dead-old, Past}
use Rattle.laws.specs.Close.Between.{NoRoot, Closed, freed-last}
use Rattle.laws.specs.Close.Visit.{Turn, Visit, first-visit, fit, passed, RegionNamed, region-named, revoke-named, domain-named}

-- ---- n is enough for a close of domain d

pub record Enough (n : ℕ) (s : State) (d : ℕ) : Type 0 where
  pub rank : ℕ → ℕ
  pub most : ℕ
  pub ranked : Ranked s.domains rank
  pub below : (k : ℕ) (y : Domain) → In s.domains k y → rank k < most
  pub fuel : most ≤ n + rank d

pub enough-first : (s : State) → Sound s → (n d : ℕ) → live_domains s ≤ n → Enough n s d
enough-first s h n d l = record { rank = ranks s h; most = live_domains s; ranked = ranks-are s h; below = ranks-low s h; fuel = omega arith }

pub not-zero : (s : State) (d : ℕ) (x : Domain) → In s.domains d x → Enough 0 s d → ⊥
not-zero s d x e h = omega (arith, h.below d x e, h.fuel)

-- for a domain that d manages one less is
pub enough-further : (s u : State) → Less s u → (n d e : ℕ) (z : Domain) → In u.domains e z → z.manager ≡ some d → Enough (suc n) s d → Enough n u e
enough-further s u l n d e z i m h = let q = ranked-less s u l h.rank h.ranked in record {
  rank = h.rank;
  most = h.most;
  ranked = q;
  below = λ k y f. let (w, g, o) = was s u l k y f in h.below k w g;
  fuel = omega (arith, h.fuel, q.child e d z i m);
}

-- ---- the slots

unfoldable pub Ok : ℕ → Type 0
Ok n = (closing : List ℕ) (s : State) (d : ℕ) (x : Domain) → Turn s d x → Enough n s d → All (Closed s d) (close_domain n closing d s)

module _ (n : ℕ) (ok : Ok n) (closing : List ℕ) (s : State) (d : ℕ) (x : Domain) (enough : Enough (suc n) s d) where
  live : (u : State) (k : ℕ) (h : Handle) (cs : List (Option Capa)) → Sound u → (T (is_live u.region_pool u.regions h) → RegionNamed s d x u k cs h) → LiveOrOlder u.region_pool u.regions h → (Old u.region_pool u.regions h → Visit s d x u (suc k) cs) → All (λ t. Visit s d x t (suc k) cs) (revoke_live closing h u)
  unfolding revoke_live
  live u k h cs sound named fits pass = branch-on (is_live u.region_pool u.regions h)
      (λ l. let r = named l in weaken (revoke-sound closing u sound h.slot r.parent r.region r.is r.under) r.next)
      (λ l. accepted (pass (dead-old u.region_pool u.regions h fits l)))

  slot : (u : State) (k : ℕ) (c : Option Capa) (cs : List (Option Capa)) → Visit s d x u k (c ∷ cs) → All (λ t. Visit s d x t (suc k) cs) (revoke_slot (close_domain n closing) closing c u)
  unfolding revoke_slot Ok
  slot u k none cs v = accepted (passed s d x u k none cs v tt)
  slot u k (some no_capa) cs v = accepted (passed s d x u k (some no_capa) cs v tt)
  slot u k (some (region h)) cs v = live u k h cs v.between.sound (region-named s d x u k h cs v) (fit s d x u k (some (region h)) cs v) (passed s d x u k (some (region h)) cs v)
  slot u k (some (region_revoke h)) cs v = live u k h cs v.between.sound (revoke-named s d x u k h cs v) (fit s d x u k (some (region_revoke h)) cs v) (passed s d x u k (some (region_revoke h)) cs v)
  slot u k (some (management h)) cs v = branch-on (is_live u.domain_pool u.domains h)
      (λ l. let z = domain-named s d x u k h cs v l in weaken (ok closing u h.slot z.domain z.turn (enough-further s u v.between.less n d h.slot z.domain z.turn.is z.managed enough)) z.next)
      (λ l. accepted (passed s d x u k (some (management h)) cs v (dead-old u.domain_pool u.domains h (fit s d x u k (some (management h)) cs v) l)))
  slot u k (some (channel h)) cs v = accepted (passed s d x u k (some (channel h)) cs v tt)

  -- in rising order
  slots : (cs : List (Option Capa)) (u : State) (k : ℕ) → Visit s d x u k cs → All (λ t. (j : ℕ) × Visit s d x t j []) (revoke_slots (revoke_slot (close_domain n closing) closing) cs u)
  unfolding revoke_slots
  slots [] u k v = accepted (k, v)
  slots (c ∷ cs) u k v = bind (slot u k c cs v) (λ t w. slots cs t (suc k) w)

whole : (n : ℕ) → Ok n → (closing : List ℕ) (s : State) (d : ℕ) (x : Domain) → Turn s d x → Enough (suc n) s d → All (Closed s d) (close_domain (suc n) closing d s)
unfolding close_domain
whole n ok closing s d x b enough = rw (domain-at s d x b.is) (bind (slots n ok (d ∷ closing) s d x enough x.locals.held s 0 (first-visit s d x b)) (λ t (j, v). freed-last s d x b.is t v.between (take_all (Past t) j x.locals.held v.left v.past)))

ok-zero : Ok 0
unfolding Ok
ok-zero closing s d x b enough = absurd (not-zero s d x b.is enough)

ok-suc : (n : ℕ) → Ok n → Ok (suc n)
unfolding Ok
ok-suc n ok closing s d x b enough = whole n ok closing s d x b enough

pub ok-all : (n : ℕ) → Ok n
ok-all zero = ok-zero
ok-all (suc n) = ok-suc n (ok-all n)

-- THEOREM: where no domain to be closed holds a root, sound tables are left sound. Any n from the number of live domains on is enough.
pub close-sound : (n : ℕ) (closing : List ℕ) (s : State) → Sound s → (d : ℕ) (x : Domain) → In s.domains d x → NoRoot s d → live_domains s ≤ n → All (Closed s d) (close_domain n closing d s)
unfolding Ok
close-sound n closing s h d x e rootless enough = ok-all n closing s d x (record { sound = h; is = e; no_root = rootless }) (enough-first s h n d enough)
