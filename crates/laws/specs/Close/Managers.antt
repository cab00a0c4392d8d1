-- The managers' forest: whose managers lead to domain d, and how many managers stand above a domain, its rank, which lies below the number of live
-- domains. The test `closes_with` finds exactly those whose managers lead to d.
use Rattle.std.specs.Prelude.{◌≡◌, refl, ℕ, zero, suc, ◌≤◌, ◌<◌, false, List, T, eqb}
use Rattle.std.proofs.Common.{ap, arith, eqb→eq, eq-eqb}
use Rattle.std.proofs.Math.Option.{Option, none, some}
use Rattle.base.specs.Cases.{holds, fails, test}
use Rattle.base.specs.Tests.{true-is}
use Rattle.model.specs.Lists.{is_some, count_if, at_slot, In}
use Rattle.model.specs.State.{State, Domain}
use Rattle.model.specs.Sound.{Sound, Managed}
use Rattle.model.specs.Closing.{closes_with}
use Rattle.laws.specs.Ranks.{Ends, RankedBy, ParentsLive, rank_by, ranked-by, rank_below}

-- e is d, or its managers lead to d
pub data Leads (ds : List (Option Domain)) (d : ℕ) : ℕ → Type 0 where
  here : {e : ℕ} → e ≡ d → Leads ds d e
  step : {e : ℕ} (m : ℕ) (y : Domain) → In ds e y → y.manager ≡ some m → Leads ds d m → Leads ds d e

pub leads-then : (ds : List (Option Domain)) (d e k : ℕ) → Leads ds d e → Leads ds e k → Leads ds d k
leads-then ds d e k a (Leads.here o) = rw o a
leads-then ds d e k a (Leads.step m y f n b) = Leads.step m y f n (leads-then ds d e m a b)

-- ---- ranks

abbrev manager : Domain → Option ℕ
manager x = x.manager

abbrev pub Ranked : List (Option Domain) → (ℕ → ℕ) → Type 0
Ranked ds r = RankedBy manager ds r

pub leads-rank : (ds : List (Option Domain)) (r : ℕ → ℕ) → Ranked ds r → (d k : ℕ) → Leads ds d k → r d ≤ r k
leads-rank ds r q d k (Leads.here o) = omega (arith, ap r o)
leads-rank ds r q d k (Leads.step m y f n b) = omega (arith, q.child k m y f n, leads-rank ds r q d m b)

ends : (ds : List (Option Domain)) (d : ℕ) → Managed ds d → Ends manager ds d
ends ds d (Managed.no_manager _ x e n) = Ends.top d x e n
ends ds d (Managed.by _ m x e n a) = Ends.under d m x e n (ends ds m a)

module _ (s : State) (h : Sound s) where
  live : ParentsLive manager s.domains
  live d x e = (h.outside.managers d x e).manager_live

  pub ranks : ℕ → ℕ
  ranks = rank_by manager s.domains (λ d x e. ends s.domains d (h.outside.managers d x e).managed)

  pub ranks-are : Ranked s.domains ranks
  unfolding ranks
  ranks-are = ranked-by manager s.domains (λ d x e. ends s.domains d (h.outside.managers d x e).managed) live

  pub ranks-low : (k : ℕ) (x : Domain) → In s.domains k x → ranks k < count_if is_some s.domains
  ranks-low = rank_below manager s.domains live ranks ranks-are

-- ---- the test of who is closed

found-step : (ds : List (Option Domain)) (n d k m : ℕ) (y : Domain) → In ds k y → y.manager ≡ some m → T (closes_with ds n d m) → T (closes_with ds (suc n) d k)
found-step ds n d k m y f u t = elim (test (eqb k d)) [ holds o ↦ rw o tt | fails o ↦ rw (o, f, u) t ]

-- whoever leads to d is found in as many steps as its rank
pub leads-found : (ds : List (Option Domain)) (r : ℕ → ℕ) → Ranked ds r → (n d k : ℕ) → r k ≤ n → Leads ds d k → T (closes_with ds n d k)
leads-found ds r q zero d k l (Leads.here o) = rw (eq-eqb k d o) tt
leads-found ds r q zero d k l (Leads.step m y f u b) = absurd (omega (arith, q.child k m y f u))
leads-found ds r q (suc n) d k l (Leads.here o) = rw (eq-eqb k d o) tt
leads-found ds r q (suc n) d k l (Leads.step m y f u b) = found-step ds n d k m y f u (leads-found ds r q n d m (omega (arith, q.child k m y f u)) b)

-- and nobody else
pub found-leads : (ds : List (Option Domain)) (n d k : ℕ) → T (closes_with ds n d k) → Leads ds d k
found-leads ds zero d k t = Leads.here (eqb→eq k d t)
found-leads ds (suc n) d k t = elim (test (eqb k d)) [
  | holds o ↦ Leads.here (eqb→eq k d (true-is o))
  | fails o ↦ go (at_slot ds k) refl (found-leads ds n d) (rw o at t)
]
  where
    go : (o : Option Domain) → at_slot ds k ≡ o → ((m : ℕ) → T (closes_with ds n d m) → Leads ds d m) → T (elim o [ none ↦ false | some x ↦ elim x.manager [ none ↦ false | some m ↦ closes_with ds n d m ] ]) → Leads ds d k
    go none e up u = absurd u
    go (some x) e up u = on x.manager refl u
      where
        on : (o : Option ℕ) → x.manager ≡ o → T (elim o [ none ↦ false | some m ↦ closes_with ds n d m ]) → Leads ds d k
        on none q v = absurd v
        on (some m) q v = Leads.step m x e q (up m v)
