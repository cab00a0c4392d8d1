-- Which regions a close takes: those that a domain to be closed owns, those that a RegionRevoke in its list names, and all below them.
use Rattle.std.specs.Prelude.{◌≡◌, ℕ, ◌<◌, Bool, false, get_or}
use Rattle.std.proofs.Common.{sym, ap, subst, ◌∙◌, eq-eqb}
use Rattle.std.proofs.Math.Option.{Option, none, some}
use lib.Dec.{T, eqb, eqb→eq}
use Rattle.std.specs.Float.Ieee.Fits.{and_l, and_r, and_i}
use Rattle.base.specs.Tests.{is_false}
use Rattle.model.specs.Lists.{is_some, count_if, at_slot, In}
use Rattle.model.specs.State.{State, Handle, Capa, no_capa, region, region_revoke, management, channel, Domain, Region, parent_of}
use Rattle.model.specs.Pool.{is_live, same_handle}
use Rattle.laws.specs.Tree.Slots.{is_live_lem, live-is}
use Rattle.laws.specs.Tree.Below.{Below}
use Rattle.laws.specs.Capas.Live.{handle-same}
use Rattle.laws.specs.Close.Managers.{Leads}
use Rattle.laws.specs.Close.Less.{Less, was, had}

-- Does this slot hold the RegionRevoke capability of that handle?
abbrev pub is_revoke_of : Handle → Option Capa → Bool
is_revoke_of h none = false
is_revoke_of h (some no_capa) = false
is_revoke_of h (some (region k)) = false
is_revoke_of h (some (region_revoke k)) = same_handle h k
is_revoke_of h (some (management k)) = false
is_revoke_of h (some (channel k)) = false

revoke-alone : (h : Handle) (x : Option Capa) → T (is_revoke_of h x) → x ≡ some (region_revoke h)
revoke-alone h none t = absurd t
revoke-alone h (some no_capa) t = absurd t
revoke-alone h (some (region k)) t = absurd t
revoke-alone h (some (region_revoke k)) t = ap (λ m. some (region_revoke m)) (sym (handle-same h k t))
revoke-alone h (some (management k)) t = absurd t
revoke-alone h (some (channel k)) t = absurd t

pub not-revoke : (P : Option Capa → Type 0) (h : Handle) → (P (some (region_revoke h)) → ⊥) → (x : Option Capa) → P x → is_revoke_of h x ≡ false
not-revoke P h n x u = is_false (lib.Dec.not_T (is_revoke_of h x) (λ t. n (subst P (revoke-alone h x t) u)))

-- Region i dies when domain d is closed in tables s.
pub data Doomed (s : State) (d i : ℕ) : Type 0 where
  owned : (j : ℕ) (g : Region) → In s.regions j g → Leads s.domains d g.owner → Below s.regions j i → Doomed s d i
  named : (k : ℕ) (x : Domain) (h : Handle) → In s.domains k x → Leads s.domains d k → 0 < count_if (is_revoke_of h) x.locals.held → T (is_live s.region_pool s.regions h) → Below s.regions h.slot i → Doomed s d i

-- ---- later in a close

module _ (s t : State) (l : Less s t) where
  pub below_less : (j i : ℕ) → Below t.regions j i → Below s.regions j i
  below_less j i (Below.here e) = Below.here e
  below_less j i (Below.step p x e q b) = let (w, f, o) = had s t l i x e in Below.step p w f (ap (λ (v : Region). parent_of v.kind) o ∙ q) (below_less j p b)

  -- a handle that is live was live
  pub live-less : (h : Handle) → T (is_live t.region_pool t.regions h) → T (is_live s.region_pool s.regions h)
  live-less h u =
      let (z, e) = live-is (at_slot t.regions h.slot) (search and_l) in
      let (w, f, o) = had s t l h.slot z e in
      let m = eqb→eq (get_or t.region_pool.gens h.slot 0) h.generation (search and_r) in
      and_i (is_some (at_slot s.regions h.slot)) (eqb (get_or s.region_pool.gens h.slot 0) h.generation) (is_live_lem (at_slot s.regions h.slot) w f) (rw (eq-eqb _ _ (sym (l.region_own h.slot z e) ∙ m)) tt)

  pub doomed-less : (d e i : ℕ) → ((k : ℕ) → Leads t.domains e k → Leads s.domains d k) → Doomed t e i → Doomed s d i
  doomed-less d e i down (owned j g f m b) = let (w, n, o) = had s t l j g f in owned j w n (subst (Leads s.domains d) (sym (ap (λ (v : Region). v.owner) o)) (down g.owner m)) (below_less j i b)
  doomed-less d e i down (named k x h f m c u b) = let (w, n, o) = was s t l k x f in named k w h n (down k m) (subst (λ y. 0 < count_if (is_revoke_of h) y.held) (sym (ap (λ (v : Domain). v.locals) o)) c) (live-less h u) (below_less h.slot i b)
